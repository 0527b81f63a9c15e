-- `signatures::sign_set` meets its contract. The invariant: the word so far, with the bits of the items that are left, is the
-- signature.
use mathlib.Core.Path.{◌≡◌}
use Rattle.sets.specs.Collections.{between}
use Rattle.sets.specs.Signatures.{signature_from, signature}
use Rattle.signatures.proofs.sign_set.Given as goal

abbrev pub invariant-loop-i : goal.invariant-loop-i
invariant-loop-i l = signature_from l.mark (between l.i l.end l.items) ≡ signature (between l.start l.end l.items)
