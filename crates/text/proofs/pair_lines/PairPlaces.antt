-- One step through pairs of places that lie within two lists: the pair at the front of what is left, and its line.
use Prim.Native.Nat.{ℕ, zero, suc, ◌+◌, ◌*◌, ◌<◌, ◌≤◌}
use mathlib.Core.Path.{◌≡◌, refl, ap, subst, ◌∙◌}
use mathlib.Core.List.{List, [], ◌∷◌, ◌++◌}
use mathlib.Core.Bool.{true, ◌&&◌}
use native.Mathlib.Omega.{arith}
use lib.Dec.{ltb}
use lib.ListN.{length, get_or, drop, drop_of_length-le}
use lib.Seq.{get_or-take, get_or-drop}
use borrow.Author.Tests.{ltb-true}
use Rattle.std.specs.Simd.{first_chunks}
use Rattle.lists.proofs.Bools.{and_left, and_right}
use Rattle.text.specs.Lines.{pair_line, pair_lines}
use Rattle.text.specs.pair_lines.Room.{pairs_within}

-- a place of the pair p, read from the pairs as arrays of two
pub place_at : (pairs : List ℕ) (m p j i : ℕ) → p < m → j < 2 → i ≡ 2 * p + j
    → get_or (get_or (first_chunks 2 m pairs) p []) j 0 ≡ get_or pairs i 0
place_at pairs (suc m) zero j i less in_pair e = get_or-take 2 pairs j 0 in_pair ∙ ap (λ (k : ℕ). get_or pairs k 0) (omega arith)
place_at pairs (suc m) (suc p) j i less in_pair e =
    place_at (drop 2 pairs) m p j (2 * p + j) (omega arith) in_pair refl ∙ get_or-drop 2 pairs (2 * p + j) 0
    ∙ ap (λ (k : ℕ). get_or pairs k 0) (omega arith)
place_at pairs zero p j i less in_pair e = absurd (omega arith)

-- a pair of places at the front of what is left, its line, and the rest
pub record PairAt (lefts rights pairs : List ℕ) (i : ℕ) : Type 0 where
  pub whole : i + 1 < length pairs
  pub left : get_or pairs i 0 < length lefts
  pub right : get_or pairs (i + 1) 0 < length rights
  pub rest : pairs_within (length lefts) (length rights) (drop (i + 2) pairs) ≡ true
  pub lines : pair_lines lefts rights (drop i pairs)
      ≡ pair_line (get_or lefts (get_or pairs i 0) 0) (get_or rights (get_or pairs (i + 1) 0) 0) ++ pair_lines lefts rights (drop (i + 2) pairs)

module _ (lefts rights : List ℕ) where
  abbrev m : ℕ
  m = length lefts

  abbrev n : ℕ
  n = length rights

  pub pair_at : (pairs : List ℕ) (i : ℕ) → pairs_within m n (drop i pairs) ≡ true → i < length pairs
      → PairAt lefts rights pairs i
  unfolding pairs_within pair_lines
  pair_at (x ∷ []) zero e in_List = let z : ◌≡◌ {A = ℕ} 0 1 = cc in absurd (omega arith)
  pair_at (x ∷ y ∷ rest) zero e in_List =
      let both = and_left (ltb x m && ltb y n) (pairs_within m n rest) e in
      record {
        whole = omega arith;
        left = ltb-true x m (and_left (ltb x m) (ltb y n) both);
        right = ltb-true y n (and_right (ltb x m) (ltb y n) both);
        rest = and_right (ltb x m && ltb y n) (pairs_within m n rest) e;
        lines = refl;
      }
  pair_at (x ∷ pairs) (suc i) e in_List =
      let p = pair_at pairs i e (omega arith) in
      let left = get_or lefts (get_or pairs i 0) 0 in
      let next : suc (i + 1) ≡ suc i + 1 = omega arith in
      let after : suc (i + 2) ≡ suc i + 2 = omega arith in
      record {
        whole = omega (arith, p.whole);
        left = p.left;
        right = subst (λ (k : ℕ). get_or (x ∷ pairs) k 0 < n) next p.right;
        rest = subst (λ (k : ℕ). pairs_within m n (drop k (x ∷ pairs)) ≡ true) after p.rest;
        lines =
            p.lines
            ∙ ap (λ (k : ℕ). pair_line left (get_or rights (get_or (x ∷ pairs) k 0) 0) ++ pair_lines lefts rights (drop (i + 2) pairs)) next
            ∙ ap (λ (k : ℕ). pair_line left (get_or rights (get_or (x ∷ pairs) (suc i + 1) 0) 0)
            ++ pair_lines lefts rights (drop k (x ∷ pairs))) after;
      }
  pair_at [] i e in_List = absurd (omega arith)

  pub lines_end : (pairs : List ℕ) (i : ℕ) → length pairs ≤ i → pair_lines lefts rights (drop i pairs) ≡ []
  unfolding pair_lines
  lines_end pairs i past = rw (drop_of_length-le pairs {i = i} past)
