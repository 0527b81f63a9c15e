-- The right sets that contain a left set, found along its path: they are those of the candidates that contain it, and where the
-- left set ends with the path they are the candidates.
use Prim.Native.Nat.{ℕ, ◌≤◌, ◌<◌}
use mathlib.Core.Path.{◌≡◌, sym, ap, ◌∙◌}
use mathlib.Core.List.{List}
use mathlib.Core.Bool.{true}
use borrow.Author.Tests.{ltb-true}
use lib.Dec.{ltb}
use lib.ListN.{length}
use Rattle.lists.specs.Lists.{keep, prefix, upto}
use Rattle.lists.proofs.Filtering.{keep_same_where, keep_through}
use Rattle.lists.proofs.Ranges.{all_upto}
use Rattle.sets.specs.Collections.{contained}
use Rattle.join_spec.specs.Query.{Query}
use Rattle.join_spec.specs.Walk.{is_candidate}
use Rattle.join_spec.proofs.Outcomes.{candidate_contained, candidate_whole}
use Rattle.join_index.specs.Grouping.{left_at, right_at}
use Rattle.join_index.specs.declared.Layout.{Layout}
use Rattle.join_index.proofs.Ordering.{right_rising}
use Rattle.join_index.specs.Asking.{LeftThere}
use Rattle.kept_rows.specs.Kept.{contained_at, containing}
use Rattle.join_nodes.specs.Narrowing.{candidate_list}
use Rattle.join_nodes.proofs.Narrowing.{candidate_path}

module _ {lay : Layout} {q : Query} {w : List ℕ} {k : ℕ} (there : LeftThere lay q w k) where
  -- ranks decide containment
  held : (s : ℕ) → ltb s (length q.rights) ≡ true → contained_at q k s ≡ contained (left_at q k) (right_at q s)
  held s below =
      there.index.ground.faithful k s there.below (ltb-true s (length q.rights) below)

  -- after all ranks of a left set the candidates are the right sets that contain it
  pub row-whole : containing q k ≡ candidate_list q (left_at q k) (length (left_at q k))
  row-whole =
      keep_same_where (λ s. ltb s (length q.rights)) (contained_at q k)
      (λ s. is_candidate (length (left_at q k)) (left_at q k) (right_at q s)) (upto (length q.rights))
      (all_upto (length q.rights))
      (λ s below. held s below ∙ sym (candidate_whole (left_at q k) (right_at q s) (right_rising q s)))

  -- where the left set begins with a path that has e ranks or more
  module _ (path : List ℕ) {e : ℕ} (some : 0 < length path) (short : e ≤ length path)
      (begins : prefix path (left_at q k) ≡ true) where
    on_path_lem : (s : ℕ) → is_candidate e (left_at q k) (right_at q s) ≡ is_candidate e path (right_at q s)
    on_path_lem s = candidate_path e path (left_at q k) (right_at q s) some begins short

    -- no right set that contains the left set is left out of the candidates
    pub row_sifted : containing q k ≡ keep (contained_at q k) (candidate_list q path e)
    row_sifted =
        sym (keep_through (contained_at q k) (λ s. is_candidate e path (right_at q s)) (λ s. ltb s (length q.rights))
        (upto (length q.rights)) (all_upto (length q.rights))
        (λ s below holds.
        sym (on_path_lem s)
        ∙ candidate_contained e (left_at q k) (right_at q s) (right_rising q s) (sym (held s below) ∙ holds)))

    -- and where the left set has no more ranks all of them contain it
    pub row_ended : length (left_at q k) ≡ e → containing q k ≡ candidate_list q path e
    row_ended ends =
        keep_same_where (λ s. ltb s (length q.rights)) (contained_at q k) (λ s. is_candidate e path (right_at q s))
        (upto (length q.rights)) (all_upto (length q.rights))
        (λ s below.
        held s below ∙ sym (candidate_whole (left_at q k) (right_at q s) (right_rising q s))
        ∙ ap (λ (n : ℕ). is_candidate n (left_at q k) (right_at q s)) ends ∙ on_path_lem s)
