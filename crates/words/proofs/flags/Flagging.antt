-- Tables of flags: the flags of no word, and what flags tell; the invariant of `set_flags`, with its start, step and end, and what
-- it makes of a table.
use Prim.Native.Nat.{ℕ, ◌+◌, ◌-◌, ◌≤◌, ◌<◌}
use mathlib.Core.Path.{◌≡◌, refl, sym, ap, subst, ◌∙◌}
use mathlib.Core.List.{List, [], ◌∷◌}
use mathlib.Core.Bool.{Bool, true, false, ◌||◌, or-false}
use native.Mathlib.Omega.{arith}
use lib.Dec.{eqb, ltb}
use lib.ListN.{length, get_or, take, drop, set, replicate, length-set, length-replicate}
use lib.Seq.{get_or-set_same, get_or-set_other}
use borrow.Author.Tests.{ltb-true, eqb-true, eqb-false}
use Rattle.std.proofs.lemmas.List.{take_all, take_more}
use Rattle.lists.specs.Lists.{one, all, memb}
use Rattle.lists.proofs.Counting.{one_bound}
use Rattle.lists.proofs.Bools.{by_test, or_left_false, or_right_false}
use Rattle.lists.proofs.Zeros.{get_d_zeros}
use Rattle.lists.proofs.Membership.{memb_nil, memb_append}
use Rattle.lists.proofs.Throughout.{all_at}
use Rattle.lists.proofs.Slices.{slice_from, all_slice}
use Rattle.words.specs.flags.Flags.{flag_room, Below, Flagged, FlagsSet, is_flagged, Clear}

-- a word of a part
pub word_below : {bound lo hi : ℕ} {w : List ℕ} → Below bound lo hi w → (i : ℕ) → lo ≤ i → i < hi → get_or w i 0 < bound
word_below {bound} {lo} {hi} {w} p i low high =
    ltb-true (get_or w i 0) bound (all_slice (λ (s : ℕ). ltb s bound) lo hi w p.within p.below i low high)

-- a part whose words are below a bound, where a list is as long
pub below_length : {bound lo hi : ℕ} {w : List ℕ} (flags : List ℕ) → length flags ≡ bound → Below bound lo hi w
    → Below (length flags) lo hi w
below_length {bound} {lo} {hi} {w} flags size p = subst (λ (n : ℕ). Below n lo hi w) (sym size) p

-- zeros flag nothing; for any length, since the table is long
pub flagged_none : (n : ℕ) → Flagged (λ s. false) (replicate n 0)
flagged_none n = record { is = λ s low. get_d_zeros n s }

pub clear_none : Clear (replicate flag_room 0)
clear_none = record { size = length-replicate {A = ℕ} flag_room 0; none = flagged_none flag_room }

-- tests that agree
pub flagged_same : {test other : ℕ → Bool} {flags : List ℕ} → Flagged test flags
    → ((s : ℕ) → test s ≡ other s) → Flagged other flags
flagged_same f same = record { is = λ s low. f.is s low ∙ ap one (same s) }

-- flags tell their test, and so are those of `is_flagged`
pub flag_tells : {test : ℕ → Bool} {flags : List ℕ} → Flagged test flags → (s : ℕ) → s < length flags → is_flagged flags s ≡ test s
flag_tells {test} {flags} f s low = ap (λ (n : ℕ). eqb n 1) (f.is s low) ∙ told (test s)
  where
    told : (b : Bool) → eqb (one b) 1 ≡ b
    told true = refl
    told false = refl

pub flagged_own : {test : ℕ → Bool} {flags : List ℕ} → Flagged test flags → Flagged (is_flagged flags) flags
flagged_own f = record { is = λ s low. f.is s low ∙ ap one (sym (flag_tells f s low)) }

-- a flag is 1 at the most
pub flag_small : {test : ℕ → Bool} {flags : List ℕ} → Flagged test flags → (s : ℕ) → s < length flags → get_or flags s 0 ≤ 1
flag_small {test} {flags} f s low = subst (λ (n : ℕ). n ≤ 1) (sym (f.is s low)) (one_bound (test s))

-- the same of the part alone
pub part_below : {bound lo hi : ℕ} {w : List ℕ} (flags : List ℕ) → length flags ≡ bound → Below bound lo hi w
    → all (λ s. ltb s (length flags)) (take (hi - lo) (drop lo w)) ≡ true
part_below {lo = lo} {hi} {w} flags size p =
    let test = λ (s : ℕ). ltb s (length flags) in
    ap (all test) (sym (slice_from lo hi w)) ∙ (below_length flags size p).below

-- a word of a part that is gone through
pub item_below : (part : List ℕ) {bound : ℕ} → all (λ s. ltb s bound) part ≡ true
    → (k : ℕ) → k < length part → get_or part k 0 < bound
item_below part {bound} p k low = ltb-true (get_or part k 0) bound (all_at (λ (s : ℕ). ltb s bound) 0 part p k low)

-- the flags of the words passed are set: at the start, after one word more, and at the end
pub setting_start : (flag : ℕ) (flags : List ℕ) → FlagsSet flag [] flags flags
setting_start flag flags =
    record { size = refl; member = λ s low m. memb_nil s m; other = λ s m. refl }

pub setting_step : {flag : ℕ} (list : List ℕ) (k : ℕ) {was flags : List ℕ} → FlagsSet flag (take k list) was flags
    → k < length list → get_or list k 0 < length flags → FlagsSet flag (take (k + 1) list) was (set flags (get_or list k 0) flag)
unfolding memb
setting_step {flag} list k {was} {flags} f below low =
    let x = get_or list k 0 in
    let last = λ (s : ℕ).
    sym (ap (λ (b : Bool). memb s (take k list) || b) (or-false (eqb s x))) ∙ sym (memb_append s (take k list) (x ∷ []))
    ∙ ap (memb s) (sym (take_more list k 0 below))
    in
    record {
      size = length-set flags x flag ∙ f.size;
      member = λ s small m.
          by_test (eqb s x)
          (λ e. ap (λ (n : ℕ). get_or (set flags x flag) n 0) (eqb-true s x e) ∙ get_or-set_same flags x flag 0 low)
          (λ e.
          let before : (memb s (take k list) || eqb s x) ≡ true = last s ∙ m in
          get_or-set_other flags x s flag 0 (eqb-false s x e)
          ∙ f.member s small (sym (or-false (memb s (take k list))) ∙ ap (λ (b : Bool). memb s (take k list) || b) (sym e) ∙ before));
      other = λ s m.
          let neither : (memb s (take k list) || eqb s x) ≡ false = last s ∙ m in
          get_or-set_other flags x s flag 0 (eqb-false s x (or_right_false (memb s (take k list)) (eqb s x) neither))
          ∙ f.other s (or_left_false (memb s (take k list)) (eqb s x) neither);
    }

pub setting_end : (part : List ℕ) {flag k : ℕ} {was flags : List ℕ} → FlagsSet flag (take k part) was flags
    → length part ≤ k → FlagsSet flag part was flags
setting_end part {flag} {k} {was} {flags} f past = subst (λ (l : List ℕ). FlagsSet flag l was flags) (take_all k part past) f

-- where no number was flagged, the words of a list now are; and their flags are taken away again
pub flags_put : {list was flags : List ℕ} → Flagged (λ s. false) was → FlagsSet 1 list was flags → Flagged (λ s. memb s list) flags
flags_put {list} {was} {flags} none f =
    record {
      is = λ s low.
          let small : s < length was = omega (arith, f.size) in
          by_test (memb s list) (λ m. f.member s small m ∙ sym (ap one m)) (λ m. f.other s m ∙ none.is s small ∙ sym (ap one m));
    }

pub flags_taken : {list was flags : List ℕ} → Flagged (λ s. memb s list) was → FlagsSet 0 list was flags → Flagged (λ s. false) flags
flags_taken {list} {was} {flags} put f =
    record {
      is = λ s low.
          let small : s < length was = omega (arith, f.size) in
          by_test (memb s list) (λ m. f.member s small m) (λ m. f.other s m ∙ put.is s small ∙ ap one m);
    }
