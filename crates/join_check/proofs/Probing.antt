-- One check: what remains of a left set as it is stored, a right set as it is stored, and a counter that one check raises.
use Prim.Native.Nat.{ℕ, ◌+◌, ◌-◌, ◌*◌, ◌≤◌}
use mathlib.Core.Path.{◌≡◌, refl, sym, ap, ap₂, ◌∙◌}
use mathlib.Core.List.{List, []}
use mathlib.Core.Bool.{Bool, true, false, not, cond}
use native.Mathlib.Omega.{arith}
use lib.Dec.{eqb}
use lib.Bits.{bit_and}
use lib.ListN.{get_or, drop_of_length-le}
use borrow.Author.Tests.{eq-eqb, ne_eqb}
use Rattle.lists.specs.Lists.{one, subset, slice, rising}
use Rattle.lists.proofs.Slices.{slice_past}
use Rattle.sets.specs.Signatures.{signature, drops}
use Rattle.join_spec.specs.Query.{Query}
use Rattle.join_spec.specs.Walk.{Outcome, dropped, false_drop, confirmed}
use Rattle.signatures.specs.Signing.{double}
use Rattle.join_index.specs.Grouping.{left_at, right_at}
use Rattle.join_index.specs.declared.Layout.{Layout}
use Rattle.join_index.proofs.Ordering.{right_rising}
use Rattle.join_check.specs.declared.Tally.{Tally}
use Rattle.join_check.specs.declared.Probe.{Probe}
use Rattle.words.specs.Words.{Word}
use Rattle.words.specs.Merges.{Rising}
use Rattle.join_index.specs.Asking.{LeftThere, RightThere}
use Rattle.join_check.specs.Counters.{Tallied}
use Rattle.join_check.specs.Probes.{ProbeOf, probe_outcome}
use Rattle.join_index.proofs.Reading.{left_stored, right_stored}
use Rattle.join_check.proofs.Tallying.{tallied_each}

-- what remains of a left set whose starts were read
module _ {lay : Layout} {q : Query} {w : List ℕ} {k start next sign : ℕ} (e : ℕ) (upward : Bool)
    (first : Word w (lay.left_starts + k) start) (second : Word w (lay.left_starts + k + 1) next)
    (signed : sign ≡ double w (lay.left_signatures + 2 * k)) (there : LeftThere lay q w k)
  where
    left_signed : sign ≡ signature (get_or q.lefts k [])
    left_signed = signed ∙ there.index.ground.left_signature k there.below

    pub probe_none : lay.left_ranks + next - (lay.left_ranks + start) ≤ e
        → ProbeOf q w k e
        (record { signature = sign; from = lay.left_ranks + next; to = lay.left_ranks + next; upward = upward })
    probe_none few =
        let s = left_stored there in
        record {
          signed = left_signed;
          rest =
              slice_past (lay.left_ranks + next) (lay.left_ranks + next) w (omega arith)
              ∙ sym (drop_of_length-le (left_at q k) {i = e} (omega (arith, first.is, second.is)));
        }

    pub probe_some :
        ProbeOf q w k e
        (record { signature = sign; from = lay.left_ranks + start + e; to = lay.left_ranks + next; upward = upward })
    probe_some =
        let s = left_stored there in
        record {
          signed = left_signed;
          rest =
              ap₂ (λ (a b : ℕ). slice (lay.left_ranks + a + e) (lay.left_ranks + b) w) first.is second.is ∙ s.rest e;
        }

-- a right set whose starts were read
module _ {lay : Layout} {q : Query} {w : List ℕ} {s start next : ℕ}
    (first : Word w (lay.right_starts + s) start) (second : Word w (lay.right_starts + s + 1) next)
    (there : RightThere lay q w s)
  where
    pub right_part : slice (lay.right_ranks + start) (lay.right_ranks + next) w ≡ right_at q s
    right_part =
        let set = right_stored there in
        let first-at = get_or w (lay.right_starts + s) 0 in
        let next-at = get_or w (lay.right_starts + s + 1) 0 in
        let from : lay.right_ranks + start ≡ lay.right_ranks + first-at + 0 = omega (arith, first.is) in
        let to : lay.right_ranks + next ≡ lay.right_ranks + next-at = omega (arith, second.is) in
        ap₂ (λ (a b : ℕ). slice a b w) from to ∙ set.rest 0

    pub right_part_rising : Rising (lay.right_ranks + start) (lay.right_ranks + next) w
    right_part_rising =
        let set = right_stored there in
        record { within = omega (arith, second.is); rise = ap rising right_part ∙ right_rising q s }

-- the outcome of a check
module _ {lay : Layout} {q : Query} {w : List ℕ} {s sign : ℕ} (p : Probe)
    (signed : sign ≡ double w (lay.right_signatures + 2 * s)) (there : RightThere lay q w s)
  where
    right_signed : sign ≡ signature (get_or q.rights s [])
    right_signed = signed ∙ there.index.ground.right_signature s there.below

    missing : (b : Bool) → eqb (bit_and p.signature sign) p.signature ≡ b
        → drops p.signature (signature (get_or q.rights s [])) ≡ not b
    missing b e = ap (λ (r : ℕ). drops p.signature r) (sym right_signed) ∙ ap not e

    pub outcome-dropped : (bit_and p.signature sign ≡ p.signature → ⊥) → probe_outcome q w p s ≡ dropped
    outcome-dropped other = rw (missing false (ne_eqb (bit_and p.signature sign) p.signature other))

    pub outcome_checked : {start next : ℕ} → Word w (lay.right_starts + s) start → Word w (lay.right_starts + s + 1) next
        → bit_and p.signature sign ≡ p.signature → {b : Bool}
        → b ≡ subset (slice p.from p.to w) (slice (lay.right_ranks + start) (lay.right_ranks + next) w)
        → cond b confirmed false_drop ≡ probe_outcome q w p s
    outcome_checked first second same test =
        let part = right_part first second there in
        rw (missing true (eq-eqb (bit_and p.signature sign) p.signature same), ← part)
        (ap (λ (x : Bool). cond x confirmed false_drop) test)

-- a check raises one counter
module _ (tally : Tally) (o : Outcome) where
  pub raise_dropped : o ≡ dropped
      → Tallied (λ is. one (is o)) tally
      (record {
        by_path = tally.by_path;
        confirmed = tally.confirmed;
        dropped = tally.dropped + 1;
        false_drops = tally.false_drops;
      })
  raise_dropped e = rw e (tallied_each (omega arith) (omega arith) refl (omega arith))

  pub raise_confirmed : o ≡ confirmed
      → Tallied (λ is. one (is o)) tally
      (record {
        by_path = tally.by_path;
        confirmed = tally.confirmed + 1;
        dropped = tally.dropped;
        false_drops = tally.false_drops;
      })
  raise_confirmed e = rw e (tallied_each (omega arith) refl (omega arith) (omega arith))

  pub raise_false : o ≡ false_drop
      → Tallied (λ is. one (is o)) tally
      (record {
        by_path = tally.by_path;
        confirmed = tally.confirmed;
        dropped = tally.dropped;
        false_drops = tally.false_drops + 1;
      })
  raise_false e = rw e (tallied_each (omega arith) (omega arith) (omega arith) refl)
