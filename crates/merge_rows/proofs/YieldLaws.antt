-- Yields put together: candidates after candidates, block after block, and the candidates of one word.
use Prim.Native.Nat.{ℕ, zero, suc, ◌+◌, ◌-◌, ◌*◌, ◌/◌, ◌%◌, ◌^◌, ◌<◌, ◌≤◌}
use mathlib.Core.Path.{◌≡◌, refl, sym, ap, ◌∙◌}
use mathlib.Core.List.{List, [], ◌∷◌, ◌++◌, append-nil}
use mathlib.Core.Bool.{Bool, true, false, not, ◌&&◌}
use native.Mathlib.Nat.{pow-suc, add-zero}
use native.Mathlib.Omega.{arith}
use borrow.Author.Tests.{ltb-true, ltb-false}
use lib.Dec.{eqb, ltb}
use lib.ListN.{length, get_or, get_or-eq_default}
use lib.Pow.{pow_pos}
use Rattle.lists.specs.Lists.{one, onto, keep, count, memb, subset, range, upto}
use Rattle.lists.proofs.Bools.{by_test, true-false, refuted}
use Rattle.lists.proofs.Counting.{count_append, count_bound, count-true}
use Rattle.lists.proofs.Filtering.{keep_agree, keep_none, keep_append, length-keep, count-keep}
use Rattle.lists.proofs.Ranges.{range_lower, range_upper, range_append, upto-split, length-range}
use Rattle.lists.proofs.Throughout.{subset_none}
use Rattle.sets.specs.Signatures.{signature}
use Rattle.bit_sets.specs.BitSets.{bit_at, digits_from}
use Rattle.bit_sets.proofs.Digits.{bit_half, bit_lowest}
use Rattle.bit_sets.proofs.Lowest.{digits_and}
use Rattle.merge_rows.specs.declared.Met.{Met}
use Rattle.merge_rows.specs.SignedSets.{drops_at}
use Rattle.merge_rows.specs.ShortLists.{pairs_with}
use Rattle.merge_rows.specs.Yields.{holds_all, is_drop, is_false, candidates_of, yield_among, Yielded}
use Rattle.merge_rows.specs.Meeting.{Blocks}
use Rattle.merge_rows.proofs.ShortWriting.{listed_none, listed_append, pairs_append}

-- the candidates of a path in some blocks
unfoldable pub candidates_in : List (List ℕ) → List ℕ → List ℕ → List ℕ
candidates_in rights path [] = []
candidates_in rights path (q ∷ blocks) = keep (holds_all rights path) (range (64 * q) 64) ++ candidates_in rights path blocks

keep_empty : (p : ℕ → Bool) (xs : List ℕ) → ((x : ℕ) → memb x xs ≡ true → p x ≡ false) → keep p xs ≡ []
keep_empty p xs none = keep_agree p (λ x. false) xs none ∙ keep_none (λ x. false) xs (λ x. refl)

-- a right set that holds some items is there
pub holds_place : (rights : List (List ℕ)) (path : List ℕ) → 0 < length path → (s : ℕ) → holds_all rights path s ≡ true
    → s < length rights
holds_place rights [] some s holds = absurd (omega arith)
holds_place rights (x ∷ path) some s holds =
    by_test (ltb s (length rights)) (λ t. ltb-true s (length rights) t)
    (λ f.
    let none : get_or rights s [] ≡ [] = get_or-eq_default rights [] (ltb-false s (length rights) f) in
    true-false holds (ap (subset (x ∷ path)) none ∙ subset_none x path))

-- k blocks from block b on, of which a word names those with a candidate
module _ (rights : List (List ℕ)) (path : List ℕ) where
  abbrev in_block : ℕ → List ℕ
  in_block q = keep (holds_all rights path) (range (64 * q) 64)

  none_in : (from : ℕ) → keep (holds_all rights path) (range from 0) ≡ []
  unfolding keep range
  none_in from = refl

  blocks_from : (k b word : ℕ) → ((j : ℕ) → j < k → bit_at word j ≡ false → in_block (b + j) ≡ [])
      → keep (holds_all rights path) (range (64 * b) (64 * k)) ≡ candidates_in rights path (digits_from k b word)
  unfolding digits_from candidates_in
  blocks_from zero b word none = none_in (64 * b)
  blocks_from (suc k) b word none =
      let more : 64 * suc k ≡ 64 + 64 * k = omega arith in
      let next : 64 * b + 64 ≡ 64 * suc b = omega arith in
      ap (λ (n : ℕ). keep (holds_all rights path) (range (64 * b) n)) more
      ∙ ap (keep (holds_all rights path)) (range_append (64 * b) 64 (64 * k))
      ∙ keep_append (holds_all rights path) (range (64 * b) 64) (range (64 * b + 64) (64 * k))
      ∙ ap (λ (n : ℕ). in_block b ++ keep (holds_all rights path) (range n (64 * k))) next
      ∙ ap (λ (l : List ℕ). in_block b ++ l) (blocks_from k (suc b) (word / 2) later)
      ∙ by_lowest (eqb (word % 2) 1) refl
    where
      later : (j : ℕ) → j < k → bit_at (word / 2) j ≡ false → in_block (suc b + j) ≡ []
      later j below f =
          let at : suc b + j ≡ b + suc j = omega arith in
          ap in_block at ∙ none (suc j) (omega arith) (bit_half word j ∙ f)

      by_lowest : (d : Bool) → eqb (word % 2) 1 ≡ d
          → in_block b ++ candidates_in rights path (digits_from k (suc b) (word / 2))
          ≡ candidates_in rights path (onto d b (digits_from k (suc b) (word / 2)))
      by_lowest true e = refl
      by_lowest false e =
          ap (λ (l : List ℕ). l ++ candidates_in rights path (digits_from k (suc b) (word / 2)))
          (ap in_block (sym (add-zero b)) ∙ none 0 (omega arith) (bit_lowest word ∙ e))

-- in the blocks that a word names they are all candidates
pub candidates-blocks : (rights : List (List ℕ)) (path : List ℕ) (blocks : ℕ) → 0 < length path → length rights ≤ 4096
    → Blocks rights path blocks → candidates_of rights path ≡ candidates_in rights path (digits_from 64 0 blocks)
unfolding candidates_of
candidates-blocks rights path blocks some few named =
    sym (all_places (length rights) (omega arith) few) ∙ blocks_from rights path 64 0 blocks unnamed
  where
    all_places : (n : ℕ) → length rights ≤ n → n ≤ 4096
        → keep (holds_all rights path) (upto 4096) ≡ keep (holds_all rights path) (upto n)
    all_places n past within =
        ap (keep (holds_all rights path)) (upto-split n 4096 within)
        ∙ keep_append (holds_all rights path) (upto n) (range n (4096 - n))
        ∙ ap (λ (l : List ℕ). keep (holds_all rights path) (upto n) ++ l)
        (keep_empty (holds_all rights path) (range n (4096 - n))
        (λ s there.
        refuted (holds_all rights path s)
        (λ holds. omega (arith, holds_place rights path some s holds, range_lower n (4096 - n) s there))))
        ∙ append-nil (keep (holds_all rights path) (upto n))

    unnamed : (j : ℕ) → j < 64 → bit_at blocks j ≡ false → in_block rights path (0 + j) ≡ []
    unnamed j below f =
        keep_empty (holds_all rights path) (range (64 * (0 + j)) 64)
        (λ s there.
        refuted (holds_all rights path s)
        (λ holds.
        let at : s / 64 ≡ j = omega (arith, range_lower (64 * (0 + j)) 64 s there, range_upper (64 * (0 + j)) 64 s there) in
        true-false (named.cover s (holds_place rights path some s holds) holds) (ap (bit_at blocks) at ∙ f)))

-- at most as many as there are right sets
pub candidates_few : (rights : List (List ℕ)) (path : List ℕ) → length (candidates_of rights path) ≤ length rights
unfolding candidates_of
candidates_few rights path =
    omega (
      arith,
      length-keep (holds_all rights path) (upto (length rights)),
      count_bound (holds_all rights path) (upto (length rights)),
      length-range 0 (length rights),
    )

-- those that pass a test, and of these those that pass another or not
count_cut : (p q : ℕ → Bool) (l : List ℕ) → count p l ≡ count (λ s. p s && q s) l + count (λ s. p s && not (q s)) l
unfolding count
count_cut p q [] = refl
count_cut p q (s ∷ l) = omega (arith, cut (p s) (q s), count_cut p q l)
  where
    cut : (a b : Bool) → one a ≡ one (a && b) + one (a && not b)
    cut true true = refl
    cut true false = refl
    cut false b = refl

-- every candidate is a pair, dropped or false
pub yield_size : (rights : List (List ℕ)) (more candidates : List ℕ)
    → let y = yield_among rights more candidates in
    length y.places + (y.dropped + y.falses) ≡ length candidates
yield_size rights more candidates =
    omega (
      arith,
      length-keep (holds_all rights more) candidates,
      count_cut (λ s. true) (holds_all rights more) candidates,
      count_cut (λ s. not (holds_all rights more s)) (drops_at (signature more) rights) candidates,
      count-true candidates,
    )

-- candidates after candidates
pub yielded_none : (rights : List (List ℕ)) (more : List ℕ) (k : ℕ) (m : Met) (was : List ℕ)
    → Yielded k (yield_among rights more []) m m was was
unfolding keep count pairs_with
yielded_none rights more k m was =
    record { listed = listed_none was m.at; confirmed = refl; dropped = omega arith; falses = omega arith }

pub yielded_append : (rights : List (List ℕ)) (more : List ℕ) (k : ℕ) (a b : List ℕ) {m n o : Met} {was mid is : List ℕ}
    → Yielded k (yield_among rights more a) m n was mid → Yielded k (yield_among rights more b) n o mid is
    → Yielded k (yield_among rights more (a ++ b)) m o was is
yielded_append rights more k a b {m} {n} {o} {was} {mid} {is} first second =
    record {
      listed =
          rw (keep_append (holds_all rights more) a b, pairs_append k (keep (holds_all rights more) a) (keep (holds_all rights more) b))
          (listed_append first.listed second.listed);
      confirmed = second.confirmed ∙ first.confirmed;
      dropped = omega (arith, first.dropped, second.dropped, count_append (is_drop rights more) a b);
      falses = omega (arith, first.falses, second.falses, count_append (is_false rights more) a b);
    }

-- a word of ones
bit_full : (k j : ℕ) → j < k → bit_at (2 ^ k - 1) j ≡ true
bit_full zero j below = absurd (omega arith)
bit_full (suc k) zero below =
    let odd : (2 ^ suc k - 1) % 2 ≡ 1 = omega (arith, pow-suc 2 k, pow_pos k) in
    bit_lowest (2 ^ suc k - 1) ∙ ap (λ (x : ℕ). eqb x 1) odd
bit_full (suc k) (suc j) below =
    let half : (2 ^ suc k - 1) / 2 ≡ 2 ^ k - 1 = omega (arith, pow-suc 2 k, pow_pos k) in
    bit_half (2 ^ suc k - 1) j ∙ ap (λ (x : ℕ). bit_at x j) half ∙ bit_full k j (omega arith)

pub bit_all : (j : ℕ) → j < 64 → bit_at 18446744073709551615 j ≡ true
bit_all j below = bit_full 64 j below

-- of a word of candidates: those that hold more, the others, and how many of these are dropped and false
module _ (rights : List (List ℕ)) (more : List ℕ) (base word held : ℕ)
    (holds : (j : ℕ) → j < 64 → bit_at held j ≡ (bit_at word j && holds_all rights more (base + j))) where
  pub word_holds : digits_from 64 base held ≡ keep (holds_all rights more) (digits_from 64 base word)
  word_holds = digits_and (holds_all rights more) 64 base word held holds

  pub word_others : (others : ℕ) → ((j : ℕ) → j < 64 → bit_at others j ≡ (bit_at word j && not (bit_at held j)))
      → digits_from 64 base others ≡ keep (λ s. not (holds_all rights more s)) (digits_from 64 base word)
  word_others others only =
      digits_and (λ s. not (holds_all rights more s)) 64 base word others
      (λ j below.
      only j below
      ∙ ap (λ (b : Bool). bit_at word j && not b) (holds j below)
      ∙ without (bit_at word j) (holds_all rights more (base + j)))
    where
      without : (a b : Bool) → (a && not (a && b)) ≡ (a && not b)
      without true b = refl
      without false b = refl

  pub word_drops : (others : ℕ) → ((j : ℕ) → j < 64 → bit_at others j ≡ (bit_at word j && not (bit_at held j)))
      → count (drops_at (signature more) rights) (digits_from 64 base others) ≡ count (is_drop rights more) (digits_from 64 base word)
  word_drops others only =
      ap (count (drops_at (signature more) rights)) (word_others others only)
      ∙ count-keep (λ s. not (holds_all rights more s)) (drops_at (signature more) rights) (digits_from 64 base word)

  pub word_falses : (others : ℕ) → ((j : ℕ) → j < 64 → bit_at others j ≡ (bit_at word j && not (bit_at held j)))
      → length (digits_from 64 base others)
      ≡ count (is_drop rights more) (digits_from 64 base word) + count (is_false rights more) (digits_from 64 base word)
  word_falses others only =
      ap length (word_others others only)
      ∙ length-keep (λ s. not (holds_all rights more s)) (digits_from 64 base word)
      ∙ count_cut (λ s. not (holds_all rights more s)) (drops_at (signature more) rights) (digits_from 64 base word)
