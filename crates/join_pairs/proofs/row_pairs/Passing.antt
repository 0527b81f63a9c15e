-- One right set and the rest of a left set to be looked for in it: where the rest has no rank it contains the left set, else the
-- check decides, since a right set that contains it has all bits of its signature.
use Prim.Native.Nat.{ℕ, ◌≤◌}
use mathlib.Core.Path.{◌≡◌, sym, ap, ap₂, ◌∙◌}
use mathlib.Core.List.{List, []}
use mathlib.Core.Bool.{Bool, true, cond}
use lib.ListN.{get_or}
use Rattle.lists.specs.Lists.{subset}
use Rattle.lists.proofs.Throughout.{subset_nil}
use Rattle.lists.proofs.Slices.{slice_past}
use Rattle.sets.specs.Signatures.{signature, drops}
use Rattle.join_spec.specs.Query.{Query}
use Rattle.join_spec.specs.Walk.{dropped, false_drop, confirmed}
use Rattle.join_spec.specs.Counting.{is_confirmed}
use Rattle.join_index.specs.Grouping.{right_at}
use Rattle.join_index.specs.declared.Layout.{Layout}
use Rattle.join_check.specs.declared.Probe.{Probe}
use Rattle.join_check.specs.Probes.{probe_outcome}
use Rattle.join_check.proofs.RowChecks.{check-confirmed}
use Rattle.kept_rows.specs.Kept.{contained_at}
use Rattle.join_pairs.specs.row_pairs.Containing.{CheckThere}

module _ {lay : Layout} {q : Query} {w : List ℕ} {p : Probe} {k s : ℕ} (there : CheckThere lay q w p k s) where
  pub contains_none : p.to ≤ p.from → true ≡ contained_at q k s
  contains_none none =
      sym (subset_nil (right_at q s)) ∙ ap (λ (l : List ℕ). subset l (right_at q s)) (sym (slice_past p.from p.to w none))
      ∙ there.decides

  pub contains_confirmed : is_confirmed (probe_outcome q w p s) ≡ contained_at q k s
  contains_confirmed =
      let left = get_or q.lefts k [] in
      let right = get_or q.rights s [] in
      ap is_confirmed
      (ap₂ (λ (a : ℕ) (b : Bool). cond (drops a (signature right)) dropped (cond b confirmed false_drop)) there.signed
      there.decides)
      ∙ check-confirmed left right
