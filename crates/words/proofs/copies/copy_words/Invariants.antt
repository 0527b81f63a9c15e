-- `words::copies::copy_words` meets its contract. The invariant: what was written, with the rest of the part, is the part.
use Prim.Native.Nat.{◌+◌, ◌-◌}
use mathlib.Core.Path.{◌≡◌}
use mathlib.Core.Bool.{true}
use Rattle.words.proofs.flags.Keeping.{Keeping}
use Rattle.words.proofs.copies.copy_words.Given as goal

abbrev pub invariant-loop-i : goal.invariant-loop-i
invariant-loop-i l = Keeping (λ s. true) l.initial.work l.from l.to l.top l.work l.i l.n × (l.n + (l.to - l.i) ≡ l.top + (l.to - l.from))
