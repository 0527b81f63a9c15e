-- What the rows say: of a word that a list's rows share, of the blocks that its sums share, and that both stay while only words above
-- the rows change.
use Prim.Native.Nat.{ℕ, ◌+◌, ◌*◌, ◌/◌, ◌%◌, ◌<◌, ◌≤◌}
use mathlib.Core.Path.{◌≡◌, refl, sym, ap, ap₂, subst, ◌∙◌}
use mathlib.Core.List.{List, [], ◌∷◌}
use mathlib.Core.Bool.{Bool, true, ◌&&◌}
use native.Mathlib.Nat.{mul-le-mul_left, zero-add}
use native.Mathlib.Omega.{arith}
use borrow.Author.Tests.{ltb-true}
use lib.Dec.{ltb}
use lib.ListN.{length, take, get_or}
use Rattle.lists.specs.Lists.{all, memb, range, upto}
use Rattle.lists.proofs.Bools.{and_right, and_both}
use Rattle.lists.proofs.Membership.{memb_at, memb_head, memb_tail}
use Rattle.lists.proofs.Ranges.{range-memb}
use Rattle.lists.proofs.Slices.{frame_less}
use Rattle.lists.proofs.Throughout.{all_elim, all_intro, all_at}
use Rattle.sets.specs.Collections.{Collection, sets_in}
use Rattle.sets.proofs.Between.{length-sets}
use Rattle.inputs.specs.Input.{Input, right_sets}
use Rattle.counting_sort.specs.Sorting.{WordsCleared}
use Rattle.bit_sets.specs.BitSets.{bit_at}
use Rattle.signatures.proofs.SigningSets.{double_stays}
use Rattle.merge_rows.specs.declared.Regions.{Regions}
use Rattle.merge_rows.specs.Words.{digit, ReadRoom}
use Rattle.merge_rows.specs.Filled.{blocks_of, row_words, RowsHold}
use Rattle.merge_rows.specs.SignedSets.{Signs}
use Rattle.merge_rows.specs.Yields.{holds_all}
use Rattle.merge_rows.specs.Meeting.{Ground, Blocks, KeptBelow}
use Rattle.merge_rows.specs.Merging.{RowsReady}
use Rattle.merge_rows.proofs.WordDigits.{double_cleared}

-- r has those digits of a word that the words of a list have
abbrev pub Shares : List ℕ → ℕ → List ℕ → ℕ → ℕ → Type 0
Shares w from list word r = (j : ℕ) → bit_at r j ≡ (bit_at word j && all (λ x. digit w (from + x) j) list)

-- tests that agree on the elements of a list
all_agree : (p q : ℕ → Bool) (xs : List ℕ) → ((x : ℕ) → memb x xs ≡ true → p x ≡ q x) → all p xs ≡ all q xs
unfolding all memb
all_agree p q [] same = refl
all_agree p q (x ∷ xs) same =
    ap₂ (λ (a b : Bool). a && b) (same x (memb_head x xs)) (all_agree p q xs (λ y m. same y (memb_tail y x xs m)))

-- every digit of the greatest word is 1
full_digits : all (bit_at 18446744073709551615) (upto 64) ≡ true
unfolding all range
full_digits = refl

full_digit : (j : ℕ) → j < 64 → bit_at 18446744073709551615 j ≡ true
full_digit j below = all_elim (bit_at 18446744073709551615) (upto 64) full_digits j (range-memb 0 64 j (omega arith) (omega arith))

-- the words of an item: its sum, and its word in a block
sum_within : (t n x : ℕ) → x < t → 2 * x + 2 ≤ 2 * row_words t n
sum_within t n x low = omega arith

cell_within : (t n q x : ℕ) → q < blocks_of n → x < t → 2 * (t * (q + 1) + x) + 2 ≤ 2 * row_words t n
cell_within t n q x within low = omega (arith, mul-le-mul_left t within)

module _ {t : ℕ} {rights : List (List ℕ)} {w : List ℕ} (rows : RowsHold t rights w) where
  item_low : (list : List ℕ) → all (λ x. ltb x t) list ≡ true → (x : ℕ) → memb x list ≡ true → x < t
  item_low list low x there = ltb-true x t (all_elim (λ x. ltb x t) list low x there)

  -- the words of a list are there, in the sums and in a block
  pub sums_room : (list : List ℕ) → all (λ x. ltb x t) list ≡ true → ReadRoom 0 list w
  sums_room list low e below =
      let x = get_or list e 0 in
      omega (arith, sum_within t (length rights) x (item_low list low x (memb_at list e 0 below)), rows.room)

  pub cells_room : (q : ℕ) (list : List ℕ) → q < blocks_of (length rights) → all (λ x. ltb x t) list ≡ true
      → ReadRoom (t * (q + 1)) list w
  cells_room q list within low e below =
      let x = get_or list e 0 in
      omega (arith, cell_within t (length rights) q x within (item_low list low x (memb_at list e 0 below)), rows.room)

  -- the right sets of a block that hold all of a list
  pub shared_cells : (q : ℕ) (list : List ℕ) (word r : ℕ) → q < blocks_of (length rights) → all (λ x. ltb x t) list ≡ true
      → Shares w (t * (q + 1)) list word r
      → (j : ℕ) → j < 64 → bit_at r j ≡ (bit_at word j && holds_all rights list (64 * q + j))
  shared_cells q list word r within low shares j below =
      shares j
      ∙ ap (λ (b : Bool). bit_at word j && b)
      (all_agree (λ x. digit w (t * (q + 1) + x) j) (λ x. memb x (get_or rights (64 * q + j) [])) list
      (λ x there. cell x (item_low list low x there)))
    where
      cell : (x : ℕ) → x < t → digit w (t * (q + 1) + x) j ≡ memb x (get_or rights (64 * q + j) [])
      cell x small =
          let block : q ≡ (64 * q + j) / 64 = omega arith in
          let place : j ≡ (64 * q + j) % 64 = omega arith in
          ap₂ (λ (b i : ℕ). digit w (t * (b + 1) + x) i) block place
          ∙ rows.cells (64 * q + j) x (omega arith) small

  -- the blocks with a right set that holds all of a list, and maybe others
  pub shared_sums : (list : List ℕ) (r : ℕ) → 0 < length list → all (λ x. ltb x t) list ≡ true → length rights ≤ 4096
      → Shares w 0 list 18446744073709551615 r → Blocks rights list r
  shared_sums list r some low few shares =
      record {
        cover = λ s here held.
            shares (s / 64)
            ∙ and_both (full_digit (s / 64) (omega arith))
            (all_intro (λ x. digit w (0 + x) (s / 64)) list
            (λ x there.
            ap (λ (y : ℕ). digit w y (s / 64)) (zero-add x)
            ∙ rows.sums s x (item_low list low x there) (all_elim (λ y. memb y (get_or rights s [])) list held x there)));
        within = λ q is.
            let x = get_or list 0 0 in
            let both = sym (shares q) ∙ is in
            let named =
            all_at (λ y. digit w (0 + y) q) 0 list
            (and_right (bit_at 18446744073709551615 q) (all (λ y. digit w (0 + y) q) list) both) 0 some
            in
            rows.within x q (item_low list low x (memb_at list 0 0 some))
            (ap (λ (y : ℕ). digit w y q) (sym (zero-add x)) ∙ named);
      }

  pub rows_kept : (w' : List ℕ) → length w' ≡ length w → take (2 * row_words t (length rights)) w' ≡ take (2 * row_words t (length rights)) w
      → RowsHold t rights w'
  rows_kept w' size same =
      record {
        room = omega (arith, rows.room);
        cells = λ s x here low. kept (t * (s / 64 + 1) + x) (s % 64) (cell_within t (length rights) (s / 64) x (omega arith) low)
            ∙ rows.cells s x here low;
        sums = λ s x low held. kept x (s / 64) (sum_within t (length rights) x low) ∙ rows.sums s x low held;
        within = λ x j low is. rows.within x j low (sym (kept x j (sum_within t (length rights) x low)) ∙ is);
      }
    where
      kept : (c j : ℕ) → 2 * c + 2 ≤ 2 * row_words t (length rights) → digit w' c j ≡ digit w c j
      kept c j below = ap (λ (x : ℕ). bit_at x j) (double_stays (2 * row_words t (length rights)) (2 * c) w w' same below)

-- signatures made on demand, and a hint, leave the ground as it is
pub ground_signs : {r : Regions} {T : ℕ} {sets : Collection} {w w' : List ℕ} → Ground r T sets w
    → Signs r.signatures (sets_in sets) w w' → Ground r T sets w'
ground_signs {r} {T} {sets} {w} {w'} ground signs =
    record {
      few = ground.few;
      good = ground.good;
      above = ground.above;
      rows =
          rows_kept ground.rows w' signs.size
          (frame_less (2 * row_words T (length (sets_in sets))) r.signatures w w'
          (subst (λ (n : ℕ). 2 * row_words T n ≤ r.signatures) (sym (length-sets 0 sets.ends sets.items)) ground.above)
          signs.low);
      signed = signs.signed;
    }

pub ground_below : {r : Regions} {T : ℕ} {sets : Collection} {w w' : List ℕ} (lo : ℕ) → r.signatures + 2 * length sets.ends ≤ lo → Ground r T sets w
    → KeptBelow lo w w' → Ground r T sets w'
ground_below {r} {T} {sets} {w} {w'} lo above ground kept =
    let n = length-sets 0 sets.ends sets.items in
    ground_signs ground
    (record {
      low = frame_less r.signatures lo w w' (omega arith) kept.low;
      size = kept.size;
      signed =
          record {
            room = omega (arith, ground.signed.room, kept.size);
            each = λ s here some.
                let same = double_stays lo (r.signatures + 2 * s) w w' kept.low (omega arith) in
                same ∙ ground.signed.each s here (λ none. some (same ∙ none));
          };
    })

-- rows filled, and the words of signatures and hints cleared
pub ground_ready : {r : Regions} {i : Input} {w v u : List ℕ} → RowsReady r i w → RowsHold i.T (right_sets i) v
    → length v ≡ length w → WordsCleared r.signatures (2 * length i.right.ends + length i.left.ends) v u → Ground r i.T i.right u
ground_ready {r} {i} {w} {v} {u} ready rows size cleared =
    let n = length-sets 0 i.right.ends i.right.items in
    let above = ready.above in
    record {
      few = ready.few;
      good = ready.good;
      above = above;
      rows =
          rows_kept rows u cleared.changed.size
          (frame_less (2 * row_words i.T (length (right_sets i))) r.signatures v u (rw n above) cleared.changed.low);
      signed =
          record {
            room = omega (arith, ready.room, cleared.changed.size);
            each = λ s here some. absurd (some (double_cleared cleared (r.signatures + 2 * s) (omega arith) (omega arith)));
          };
    }
