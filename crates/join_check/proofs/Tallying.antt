-- Counters that are raised step by step: what they have, with what remains, is what they had with all. One text for the checks
-- of a row and of a range. And what remains of a left set decides its check.
use Prim.Native.Nat.{ℕ, ◌+◌, ◌≤◌, ◌<◌}
use mathlib.Core.Path.{◌≡◌, refl, sym, ap, ap₂, ◌∙◌}
use mathlib.Core.List.{List, []}
use mathlib.Core.Bool.{Bool, true, cond}
use native.Mathlib.Omega.{arith}
use lib.ListN.{get_or}
use Rattle.lists.specs.Lists.{all, memb, subset, sum, slice, rising}
use Rattle.lists.proofs.Throughout.{all_after}
use Rattle.lists.proofs.Rising.{rising-drop}
use Rattle.lists.proofs.Summing.{sum_same, sum-add}
use Rattle.lists.proofs.Slices.{all_slice}
use Rattle.sets.specs.Collections.{contained}
use Rattle.sets.specs.Signatures.{signature, drops}
use Rattle.sets.proofs.Containment.{contained-subset}
use Rattle.join_spec.specs.Query.{Query}
use Rattle.join_spec.specs.Walk.{Outcome, is_candidate, dropped, false_drop, confirmed}
use Rattle.join_spec.specs.Counting.{is_by_path, is_confirmed, is_dropped, is_false}
use Rattle.join_spec.specs.Kinds.{Kind, path_pair, confirmed_check, dropped_check, false_check, is_of}
use Rattle.join_spec.proofs.Outcomes.{candidate_holds, candidate_some}
use Rattle.join_index.specs.Grouping.{left_at, right_at}
use Rattle.join_index.specs.declared.Layout.{Layout}
use Rattle.join_index.proofs.Ordering.{left_rising}
use Rattle.join_check.specs.declared.Tally.{Tally}
use Rattle.join_check.specs.declared.Probe.{Probe}
use Rattle.words.specs.Words.{Word}
use Rattle.words.specs.Merges.{Rising}
use Rattle.join_index.specs.Asking.{LeftThere}
use Rattle.join_check.specs.Checks.{check_at, RowThere}
use Rattle.join_check.specs.Counters.{counter, Tallied}
use Rattle.join_check.specs.Probes.{ProbeOf, Probed, probe_outcome}
use Rattle.join_index.proofs.Places.{place_right}

-- counters that grew by the same amounts, said in another way
pub tallied_same : {a b : (Outcome → Bool) → ℕ} {tally r : Tally} → ((kind : Kind) → a (is_of kind) ≡ b (is_of kind))
    → Tallied a tally r → Tallied b tally r
tallied_same same tallied = record { grows = λ kind. omega (arith, same kind, tallied.grows kind) }

-- counter by counter
pub tallied_each : {amount : (Outcome → Bool) → ℕ} {tally r : Tally} → r.by_path ≡ tally.by_path + amount is_by_path
    → r.confirmed ≡ tally.confirmed + amount is_confirmed → r.dropped ≡ tally.dropped + amount is_dropped
    → r.false_drops ≡ tally.false_drops + amount is_false → Tallied amount tally r
tallied_each {amount} {tally} {r} path check drop false = record { grows = each }
  where
    each : (kind : Kind) → counter kind r ≡ counter kind tally + amount (is_of kind)
    each path_pair = path
    each confirmed_check = check
    each dropped_check = drop
    each false_check = false

-- some kinds together
pub tallied_sum : {amount : (Outcome → Bool) → ℕ} {tally r : Tally} (ks : List Kind) → Tallied amount tally r
    → sum (λ kind. counter kind r) ks ≡ sum (λ kind. counter kind tally) ks + sum (λ kind. amount (is_of kind)) ks
tallied_sum {amount} {tally} {r} ks tallied =
    sum_same (λ kind. counter kind r) (λ kind. counter kind tally + amount (is_of kind)) ks tallied.grows
    ∙ sum-add (λ kind. counter kind tally) (λ kind. amount (is_of kind)) ks

-- what the counters have, with the amounts of the rest, is what they had with all
pub record Leaving (rest all : (Outcome → Bool) → ℕ) (tally r : Tally) : Type 0 where
  pub same : (kind : Kind) → counter kind r + rest (is_of kind) ≡ counter kind tally + all (is_of kind)

pub leaving_start : (all : (Outcome → Bool) → ℕ) (tally : Tally) → Leaving all all tally tally
leaving_start all tally = record { same = λ kind. refl }

module _ {rest all : (Outcome → Bool) → ℕ} {tally r : Tally} (so : Leaving rest all tally r) where
  pub leaving_step : {step later : (Outcome → Bool) → ℕ} {u : Tally} → Tallied step r u
      → ((is : Outcome → Bool) → rest is ≡ step is + later is) → Leaving later all tally u
  leaving_step more split = record { same = λ kind. omega (arith, split (is_of kind), more.grows kind, so.same kind) }

  pub leaving_end : ((is : Outcome → Bool) → rest is ≡ 0) → Tallied all tally r
  leaving_end none = record { grows = λ kind. omega (arith, none (is_of kind), so.same kind) }

-- what remains of a left set rises
pub probe_rising : {lay : Layout} {q : Query} {w : List ℕ} {k e : ℕ} {p : Probe} → Probed lay w k e p → LeftThere lay q w k
    → Rising p.from p.to w
probe_rising {lay} {q} {w} {k} {e} {p} probed there =
    record {
      within = omega (arith, probed.within, there.index.room);
      rise = ap rising (probed.is q there).rest ∙ rising-drop e (left_at q k) (left_rising q k);
    }

-- the ranks that are not on the merged path decide, where the right set holds those that are
pub probe_check : {lay : Layout} {q : Query} {w : List ℕ} {k e from to : ℕ} {p : Probe} → RowThere lay q w k e from to
    → ProbeOf q w k e p → (i s : ℕ) → from ≤ i → i < to → Word w i s → probe_outcome q w p s ≡ check_at q k s
probe_check {lay} {q} {w} {k} {e} {from} {to} {p} there probe i s low high word =
    let right = place_right there.places i s low high word in
    let candidate : is_candidate e (left_at q k) (right_at q s) ≡ true =
    ap (λ (n : ℕ). is_candidate e (left_at q k) (right_at q n)) word.is
    ∙ all_slice (λ (n : ℕ). is_candidate e (left_at q k) (right_at q n)) from to w there.places.within there.candidates i
    low high
    in
    let items : subset (slice p.from p.to w) (right_at q s) ≡ contained (get_or q.lefts k []) (get_or q.rights s []) =
    ap (λ (l : List ℕ). subset l (right_at q s)) probe.rest
    ∙ sym (all_after (λ (x : ℕ). memb x (right_at q s)) e (left_at q k) (candidate_holds e (left_at q k) (right_at q s) candidate))
    ∙ sym (contained-subset (left_at q k) (right_at q s) (candidate_some e (left_at q k) (right_at q s) candidate))
    ∙ sym (there.left.index.ground.faithful k s there.left.below right.below)
    in
    ap₂ (λ (a : ℕ) (b : Bool). cond (drops a (signature (get_or q.rights s []))) dropped (cond b confirmed false_drop))
    probe.signed items
