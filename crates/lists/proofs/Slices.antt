-- Parts of one list: what two lists that agree up to a place, or from a place on, share; runs `slice f t l` by their first
-- element, extended by one, joined and stored into; and the laws of `Changed lo hi`, by which a function's frame goes on
-- through its steps.
use Prim.Native.Nat.{ℕ, zero, suc, ◌+◌, ◌-◌, ◌≤◌, ◌<◌}
use mathlib.Core.Path.{◌≡◌, refl, sym, ap, ◌∙◌}
use mathlib.Core.List.{List, [], ◌∷◌, ◌++◌}
use mathlib.Core.Bool.{Bool, true}
use native.Mathlib.Nat.{sub-zero, zero-sub, suc-sub-suc}
use native.Mathlib.Numerals.{add-one}
use native.Mathlib.Omega.{arith}
use lib.ListN.{length, get_or, take, drop, set, length-set, length-take, drop_of_length-le}
use lib.Seq.{take-take, take-add, take-nil, take-suc, take-set-le, take-suc-set, drop-drop, drop-set-lt, drop-append-le}
use lib.Seq.{get_or-take, get_or-drop, length-take-le, slice_empty, slice-cons}
use lib.Seq.{length-slice as length-drop-take}
use Rattle.lists.specs.Lists.{all, slice}
use Rattle.lists.specs.Parts.{Changed}
use Rattle.lists.proofs.Throughout.{all_at}

module _ {A : Type 0} where
  -- the same up to n
  pub frame_less : (m n : ℕ) (w v : List A) → m ≤ n → take n v ≡ take n w → take m v ≡ take m w
  frame_less m n w v h e = sym (take-take m n v h) ∙ ap (λ (l : List A). take m l) e ∙ take-take m n w h

  pub frame_at : (d : A) (i n : ℕ) (w v : List A) → i < n → take n v ≡ take n w → get_or v i d ≡ get_or w i d
  frame_at d i n w v h e = sym (get_or-take n v i d h) ∙ ap (λ (l : List A). get_or l i d) e ∙ get_or-take n w i d h

  pub frame-slice : (f t n : ℕ) (w v : List A) → t ≤ n → take n v ≡ take n w → slice f t v ≡ slice f t w
  unfolding slice
  frame-slice f t n w v h e = ap (λ (l : List A). drop f l) (frame_less t n w v h e)

  -- the same from n on
  pub rest_more : (n m : ℕ) (w v : List A) → n ≤ m → drop n v ≡ drop n w → drop m v ≡ drop m w
  rest_more n m w v h e =
      let there : n + (m - n) ≡ m = omega arith in
      ap (λ (k : ℕ). drop k v) (sym there)
      ∙ sym (drop-drop (m - n) n v)
      ∙ ap (λ (l : List A). drop (m - n) l) e
      ∙ drop-drop (m - n) n w
      ∙ ap (λ (k : ℕ). drop k w) there

  pub rest_at : (d : A) (n i : ℕ) (w v : List A) → n ≤ i → drop n v ≡ drop n w → get_or v i d ≡ get_or w i d
  rest_at d n i w v h e =
      let there : n + (i - n) ≡ i = omega arith in
      ap (λ (k : ℕ). get_or v k d) (sym there)
      ∙ sym (get_or-drop n v (i - n) d)
      ∙ ap (λ (l : List A). get_or l (i - n) d) e
      ∙ get_or-drop n w (i - n) d
      ∙ ap (λ (k : ℕ). get_or w k d) there

  -- a part counted from its own beginning
  pub drop-take : (f t : ℕ) (l : List A) → drop f (take t l) ≡ take (t - f) (drop f l)
  drop-take zero t l = rw (sub-zero t)
  drop-take (suc f) zero l = rw (zero-sub (suc f))
  drop-take (suc f) (suc t) [] = rw take-nil
  drop-take (suc f) (suc t) (x ∷ xs) = rw (suc-sub-suc t f) (drop-take f t xs)

  pub slice_from : (f t : ℕ) (l : List A) → slice f t l ≡ take (t - f) (drop f l)
  unfolding slice
  slice_from f t l = drop-take f t l

  pub rest-slice : (n f t : ℕ) (w v : List A) → n ≤ f → drop n v ≡ drop n w → slice f t v ≡ slice f t w
  rest-slice n f t w v h e =
      slice_from f t v ∙ ap (λ (l : List A). take (t - f) l) (rest_more n f w v h e) ∙ sym (slice_from f t w)

  -- a run
  pub slice_none : (t : ℕ) (l : List A) → slice t t l ≡ []
  unfolding slice
  slice_none t l = slice_empty t l

  pub slice_past : (f t : ℕ) (l : List A) → t ≤ f → slice f t l ≡ []
  unfolding slice
  slice_past f t l h = drop_of_length-le (take t l) {i = f} (omega (arith, length-take t l))

  pub length-slice : (f t : ℕ) (l : List A) → t ≤ length l → length (slice f t l) ≡ t - f
  unfolding slice
  length-slice f t l h = length-drop-take f t l h

  pub get_d_slice : (d : A) (f t i : ℕ) (l : List A) → f + i < t → get_or (slice f t l) i d ≡ get_or l (f + i) d
  unfolding slice
  get_d_slice d f t i l h = get_or-drop f (take t l) i d ∙ get_or-take t l (f + i) d h

  pub slice_snoc : (d : A) (f t : ℕ) (l : List A) → f ≤ t → t < length l → slice f (suc t) l ≡ slice f t l ++ (get_or l t d ∷ [])
  unfolding slice
  slice_snoc d f t l h below =
      ap (λ (k : List A). drop f k) (take-suc l t d below)
      ∙ drop-append-le f (take t l) (get_or l t d ∷ []) (omega (arith, length-take-le t l (omega arith)))

  slice_cut : (f m t : ℕ) (l : List A) → f ≤ m → m ≤ t → m ≤ length l → slice f t l ≡ slice f m l ++ take (t - m) (drop m l)
  unfolding slice
  slice_cut f m t l low high within =
      let there : m + (t - m) ≡ t = omega arith in
      ap (λ (k : ℕ). drop f (take k l)) (sym there)
      ∙ ap (λ (k : List A). drop f k) (take-add m (t - m) l)
      ∙ drop-append-le f (take m l) (take (t - m) (drop m l)) (omega (arith, length-take-le m l within))

  pub slice-split : (f m t : ℕ) (l : List A) → f ≤ m → m ≤ t → m ≤ length l → slice f t l ≡ slice f m l ++ slice m t l
  slice-split f m t l low high within =
      slice_cut f m t l low high within ∙ ap (λ (r : List A). slice f m l ++ r) (sym (slice_from m t l))

  -- a store before, after, and at the end of a run
  pub slice-set_below : (f t : ℕ) (l : List A) (i : ℕ) (a : A) → i < f → slice f t (set l i a) ≡ slice f t l
  slice-set_below f t l i a h =
      slice_from f t (set l i a) ∙ ap (λ (k : List A). take (t - f) k) (drop-set-lt f l i a h) ∙ sym (slice_from f t l)

  pub slice-set_above : (f t : ℕ) (l : List A) (i : ℕ) (a : A) → t ≤ i → slice f t (set l i a) ≡ slice f t l
  unfolding slice
  slice-set_above f t l i a h = ap (λ (k : List A). drop f k) (take-set-le t l i a h)

  pub slice-set_end : (f i : ℕ) (l : List A) (a : A) → f ≤ i → i < length l
      → slice f (suc i) (set l i a) ≡ slice f i l ++ (a ∷ [])
  unfolding slice
  slice-set_end f i l a h below =
      ap (λ (k : List A). drop f k) (take-suc-set l i a below)
      ∙ drop-append-le f (take i l) (a ∷ []) (omega (arith, length-take-le i l (omega arith)))

pub slice_next : (f t : ℕ) (l : List ℕ) → f < t → t ≤ length l → slice f t l ≡ get_or l f 0 ∷ slice (f + 1) t l
unfolding slice
slice_next f t l h k = rw (add-one f) (slice-cons f t l 0 h k)

-- a test that holds throughout a part of a list holds at each place of it
pub all_slice : (p : ℕ → Bool) (f t : ℕ) (l : List ℕ) → t ≤ length l → all p (slice f t l) ≡ true
    → (i : ℕ) → f ≤ i → i < t → p (get_or l i 0) ≡ true
all_slice p f t l within a i low high =
    let at : f + (i - f) ≡ i = omega arith in
    let here : get_or (slice f t l) (i - f) 0 ≡ get_or l i 0 =
    get_d_slice 0 f t (i - f) l (omega arith) ∙ ap (λ (k : ℕ). get_or l k 0) at
    in
    ap p (sym here) ∙ all_at p 0 (slice f t l) a (i - f) (omega (arith, length-slice f t l within))

-- frames
pub changed_none : (lo hi : ℕ) (w : List ℕ) → Changed lo hi w w
changed_none lo hi w = record { size = refl; low = refl; high = refl }

module _ {lo hi : ℕ} {w v : List ℕ} where
  pub changed_more : (from to : ℕ) → from ≤ lo → hi ≤ to → Changed lo hi w v → Changed from to w v
  changed_more from to low high c =
      record { size = c.size; low = frame_less from lo w v low c.low; high = rest_more hi to w v high c.high }

  pub changed_store : (i a : ℕ) → lo ≤ i → i < hi → Changed lo hi w v → Changed lo hi w (set v i a)
  changed_store i a low high c =
      record {
        size = length-set v i a ∙ c.size;
        low = take-set-le lo v i a low ∙ c.low;
        high = drop-set-lt hi v i a high ∙ c.high;
      }

  pub changed_at_low : (i : ℕ) → i < lo → Changed lo hi w v → get_or v i 0 ≡ get_or w i 0
  changed_at_low i h c = frame_at 0 i lo w v h c.low

  pub changed_at_high : (i : ℕ) → hi ≤ i → Changed lo hi w v → get_or v i 0 ≡ get_or w i 0
  changed_at_high i h c = rest_at 0 hi i w v h c.high

  pub changed_slice_high : (f t : ℕ) → hi ≤ f → Changed lo hi w v → slice f t v ≡ slice f t w
  changed_slice_high f t h c = rest-slice hi f t w v h c.high
