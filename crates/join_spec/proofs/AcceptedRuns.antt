-- Accepted joins. The returned counts are tied together (demand 3): pairs = by path + confirmed, checks = dropped + false +
-- confirmed, checks are at most left sets x right sets. The filled part of the pair list is the list of contained pairs,
-- whatever the settings; so two accepted joins of the same collections give the same pairs.
use Prim.Native.Nat.{ℕ, ◌+◌, ◌*◌, ◌≤◌}
use mathlib.Core.Path.{◌≡◌, sym, ap, ap₂, subst, ◌∙◌}
use mathlib.Core.List.{List}
use lib.ListN.{length, take, drop}
use lib.Seq.{take_at, drop_at}
use Rattle.std.specs.Prelude.{Ok}
use Rattle.join_spec.specs.declared.Counts.{Counts}
use Rattle.inputs.specs.Input.{Input, left_sets, right_sets}
use Rattle.sets.proofs.Between.{length-sets}
use Rattle.sets.proofs.Ordered.{items_below}
use Rattle.join_spec.specs.PairList.{pair_list, pair_count}
use Rattle.join_spec.specs.Counting.{is_check, total}
use Rattle.join_spec.specs.Query.{Settings, query_of}
use Rattle.join_spec.specs.Answer.{Room, join_answer, pairs_after}
use Rattle.join_spec.proofs.Demand.{pairs_met, checks_end, total_bound}
use Rattle.join_spec.proofs.PairListLaws.{length-pair_list}
use Rattle.join_spec.proofs.Accepted.{accepted}

-- the contained pairs of two collections, and the pair list at exit of a join that had `before` in it
abbrev pub pairs_of : Input → List ℕ
pairs_of i = pair_list (left_sets i) (right_sets i)

abbrev pub exit_pairs : Input → Settings → Room → List ℕ → List ℕ
exit_pairs i s room before = pairs_after (join_answer i s room) (pairs_of i) before

module _ (i : Input) (s : Settings) (room : Room) (counts : Counts) (joins : join_answer i s room ≡ Ok counts) where
  pub pairs_counted : counts.pairs ≡ pair_count (left_sets i) (right_sets i)
  pairs_counted = ap (λ (n : Counts). n.pairs) (accepted i s room counts joins).counted

  pub pairs_by_path_or_confirmed : counts.pairs ≡ counts.by_path + counts.confirmed
  pairs_by_path_or_confirmed =
      let a = accepted i s room counts joins in
      subst (λ (n : Counts). n.pairs ≡ n.by_path + n.confirmed) (sym a.counted)
      (pairs_met (query_of i s) a.tests.settings.permutation (items_below i.T i.left.ends i.left.items a.tests.good.left)
      (items_below i.T i.right.ends i.right.items a.tests.good.right))

  pub checks_dropped-false_or_confirmed : counts.checks ≡ counts.dropped + (counts.false_drops + counts.confirmed)
  checks_dropped-false_or_confirmed =
      subst (λ (n : Counts). n.checks ≡ n.dropped + (n.false_drops + n.confirmed))
      (sym (accepted i s room counts joins).counted) (checks_end (query_of i s))

  pub checks_within_product : counts.checks ≤ length i.left.ends * length i.right.ends
  checks_within_product =
      subst (λ (n : Counts). n.checks ≤ length i.left.ends * length i.right.ends) (sym (accepted i s room counts joins).counted)
      (subst (λ (n : ℕ). total is_check (query_of i s) ≤ n)
      (ap₂ (λ (m n : ℕ). m * n) (length-sets 0 i.left.ends i.left.items) (length-sets 0 i.right.ends i.right.items))
      (total_bound is_check (query_of i s)))

  pub checks_within_budget : counts.checks ≤ s.budget
  checks_within_budget =
      let a = accepted i s room counts joins in subst (λ (n : Counts). n.checks ≤ s.budget) (sym a.counted) a.within

  filled-length : length (pairs_of i) ≡ 2 * counts.pairs
  filled-length = length-pair_list (left_sets i) (right_sets i) ∙ ap (λ (n : ℕ). 2 * n) (sym pairs_counted)

  -- the pair list at exit: first the contained pairs, then what was there before; its length stays
  pub filled_part : (before : List ℕ) → take (2 * counts.pairs) (exit_pairs i s room before) ≡ pairs_of i
  filled_part before = rw joins (take_at (pairs_of i) (drop (length (pairs_of i)) before) (2 * counts.pairs) filled-length)

  pub rest_part : (before : List ℕ) → drop (2 * counts.pairs) (exit_pairs i s room before) ≡ drop (2 * counts.pairs) before
  rest_part before =
      rw joins
      (drop_at (pairs_of i) (drop (length (pairs_of i)) before) (2 * counts.pairs) filled-length
      ∙ ap (λ (n : ℕ). drop n before) filled-length)

-- two accepted joins of the same collections, whatever their limits, ranks, budgets, rules, weights and lists
module _ (i : Input) (s s' : Settings) (room room' : Room) (counts counts' : Counts) (joins : join_answer i s room ≡ Ok counts)
    (joins' : join_answer i s' room' ≡ Ok counts') where
  pub same_count : counts.pairs ≡ counts'.pairs
  same_count = pairs_counted i s room counts joins ∙ sym (pairs_counted i s' room' counts' joins')
