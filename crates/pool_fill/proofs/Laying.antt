-- Sets laid out one after the other in a list, each with the part of it that stands there now and the whole that will: one more set
-- behind the others, another part written at its place, and what the list holds once every part is the whole.
use mathlib.Core.Path.{◌≡◌, refl, sym, ap, ap₂, subst, ◌∙◌}
use mathlib.Core.List.{List, [], ◌∷◌, ◌++◌, map, flatten}
use Prim.Native.Nat.{ℕ, suc, ◌+◌, ◌-◌, ◌≤◌}
use native.Mathlib.Omega.{arith}
use lib.ListN.{length, take, drop, set, length-append}
use lib.Seq.{sets, sets-eq, take-set-le, drop-set-lt, take_at, drop_at, length-take-le, take-add, drop-drop}
use Rattle.lists.specs.Lists.{slice}
use Rattle.lists.proofs.Slices.{frame-slice, rest-slice, slice_from, slice_none}

-- ---- numbers stored from a place on

pub take-sets : (m : ℕ) (w : List ℕ) (at : ℕ) (new : List ℕ) → m ≤ at → take m (sets w at new) ≡ take m w
take-sets m w at [] h = refl
take-sets m w at (x ∷ new) h = take-sets m (set w at x) (suc at) new (omega arith) ∙ take-set-le m w at x h

pub drop-sets : (m : ℕ) (w : List ℕ) (at : ℕ) (new : List ℕ) → at + length new ≤ m → drop m (sets w at new) ≡ drop m w
drop-sets m w at [] h = refl
drop-sets m w at (x ∷ new) h = drop-sets m (set w at x) (suc at) new (omega arith) ∙ drop-set-lt m w at x (omega arith)

pub slice-sets : (w : List ℕ) (at : ℕ) (new : List ℕ) → at + length new ≤ length w
    → slice at (at + length new) (sets w at new) ≡ new
unfolding slice
slice-sets w at new room =
    let low = length-take-le at w (omega arith) in
    ap (λ (l : List ℕ). drop at (take (at + length new) l)) (sets-eq new w at room)
    ∙ ap (λ (l : List ℕ). drop at l)
    (take_at (take at w ++ new) (drop (at + length new) w) (at + length new)
    (length-append (take at w) new ∙ ap (λ (k : ℕ). k + length new) low))
    ∙ drop_at (take at w) new at low

-- ---- sets one after the other

pub flatten_append : (a b : List (List ℕ)) → flatten (a ++ b) ≡ flatten a ++ flatten b
unfolding flatten
flatten_append [] b = refl
flatten_append (x ∷ a) b = ap (λ (l : List ℕ). x ++ l) (flatten_append a b) ∙ sym (assoc x (flatten a) (flatten b))
  where
    assoc : (x y z : List ℕ) → (x ++ y) ++ z ≡ x ++ (y ++ z)
    assoc [] y z = refl
    assoc (k ∷ x) y z = ap (λ (l : List ℕ). k ∷ l) (assoc x y z)

-- what will stand at a place, and the part of it that stands there now
pub record Block : Type 0 where
  pub whole : List ℕ
  pub part : List ℕ

abbrev pub wholes : List Block → List (List ℕ)
wholes bs = map (λ b. b.whole) bs

abbrev pub parts : List Block → List (List ℕ)
parts bs = map (λ b. b.part) bs

-- how much the wholes take
abbrev pub size : List Block → ℕ
size bs = length (flatten (wholes bs))

pub size_cons : (b : Block) (bs : List Block) → size (b ∷ bs) ≡ length b.whole + size bs
unfolding flatten
size_cons b bs = length-append b.whole (flatten (wholes bs))

pub record Stands (items : List ℕ) (at : ℕ) (b : Block) : Type 0 where
  pub here : slice at (at + length b.part) items ≡ b.part
  pub fits : length b.part ≤ length b.whole

-- blocks stand one after the other from a place on
unfoldable pub Laid : List ℕ → ℕ → List Block → Type 0
Laid items at [] = ◌≡◌ {A = ℕ} at at
Laid items at (b ∷ bs) = Stands items at b × Laid items (at + length b.whole) bs

pub laid_none : (items : List ℕ) (at : ℕ) → Laid items at []
unfolding Laid
laid_none items at = refl

laid_high : (w v : List ℕ) (m : ℕ) → drop m v ≡ drop m w → (at : ℕ) (bs : List Block) → m ≤ at → Laid w at bs → Laid v at bs
unfolding Laid
laid_high w v m e at [] h l = refl
laid_high w v m e at (b ∷ bs) h l = (
  record { here = rest-slice m at (at + length b.part) w v h e ∙ l.0.here; fits = l.0.fits },
  laid_high w v m e (at + length b.whole) bs (omega arith) l.1,
)

-- what stands at the place of a block
pub laid_at : (w : List ℕ) (at : ℕ) (bs : List Block) (b : Block) (cs : List Block) → Laid w at (bs ++ (b ∷ cs))
    → Stands w (at + size bs) b
unfolding Laid flatten
laid_at w at [] b cs l = let e : at ≡ at + 0 = omega arith in subst (λ (k : ℕ). Stands w k b) e l.0
laid_at w at (x ∷ bs) b cs l =
    let e : at + length x.whole + size bs ≡ at + size (x ∷ bs) = omega (arith, size_cons x bs) in
    subst (λ (k : ℕ). Stands w k b) e (laid_at w (at + length x.whole) bs b cs l.1)

-- another part written at its place
abbrev pub with_part : Block → List ℕ → Block
with_part b p = record { whole = b.whole; part = p }

pub laid_put : (w : List ℕ) (at : ℕ) (bs : List Block) (b : Block) (cs : List Block) (p : List ℕ) → Laid w at (bs ++ (b ∷ cs))
    → length p ≤ length b.whole → at + size bs + length p ≤ length w
    → Laid (sets w (at + size bs) p) at (bs ++ (with_part b p ∷ cs))
unfolding Laid flatten
laid_put w at [] b cs p l fits room =
    let e : at ≡ at + 0 = omega arith in
    let r : at + length p ≤ length w = omega arith in
    subst (λ (k : ℕ). Laid (sets w k p) at (with_part b p ∷ cs)) e (
      record { here = slice-sets w at p r; fits = fits },
      laid_high w (sets w at p) (at + length b.whole) (drop-sets (at + length b.whole) w at p (omega arith))
          (at + length b.whole) cs (omega arith) l.1,
    )
laid_put w at (x ∷ bs) b cs p l fits room =
    let e : at + length x.whole + size bs ≡ at + size (x ∷ bs) = omega (arith, size_cons x bs) in
    let later = laid_put w (at + length x.whole) bs b cs p l.1 fits (omega arith) in
    subst (λ (k : ℕ). Laid (sets w k p) at (x ∷ (bs ++ (with_part b p ∷ cs)))) e (
      record {
        here =
            frame-slice at (at + length x.part) (at + length x.part) w
            (sets w (at + length x.whole + size bs) p) (omega arith)
            (take-sets (at + length x.part) w (at + length x.whole + size bs) p (omega (arith, l.0.fits)))
            ∙ l.0.here;
        fits = l.0.fits;
      },
      later,
    )

-- one more block behind the others
pub laid_add : (w : List ℕ) (at : ℕ) (bs : List Block) (b : Block) → Laid w at bs → Stands w (at + size bs) b
    → Laid w at (bs ++ (b ∷ []))
unfolding Laid flatten
laid_add w at [] b l s = let e : at + 0 ≡ at = omega arith in (subst (λ (k : ℕ). Stands w k b) e s, refl)
laid_add w at (x ∷ bs) b l s =
    let e : at + size (x ∷ bs) ≡ at + length x.whole + size bs = omega (arith, size_cons x bs) in
    (l.0, laid_add w (at + length x.whole) bs b l.1 (subst (λ (k : ℕ). Stands w k b) e s))

-- the same with its part written
pub laid_grow : (w : List ℕ) (at : ℕ) (bs : List Block) (b : Block) → Laid w at bs
    → length b.part ≤ length b.whole → at + size bs + length b.part ≤ length w
    → Laid (sets w (at + size bs) b.part) at (bs ++ (b ∷ []))
laid_grow w at bs b l fits room =
    let empty : Block = record { whole = b.whole; part = [] } in
    let none : at + size bs + 0 ≡ at + size bs = omega arith in
    laid_put w at bs empty [] b.part
    (laid_add w at bs empty l
    (record { here = ap (λ (k : ℕ). slice (at + size bs) k w) none ∙ slice_none (at + size bs) w; fits = omega arith }))
    fits room

-- where every part is the whole, the list has them one after the other
heads_same : {a b : List ℕ} {xs ys : List (List ℕ)} → ◌≡◌ {A = List (List ℕ)} (a ∷ xs) (b ∷ ys) → a ≡ b
heads_same e = cc

tails_same : {a b : List ℕ} {xs ys : List (List ℕ)} → ◌≡◌ {A = List (List ℕ)} (a ∷ xs) (b ∷ ys) → xs ≡ ys
tails_same e = cc

pub laid_whole : (w : List ℕ) (at : ℕ) (bs : List Block) → Laid w at bs → parts bs ≡ wholes bs
    → take (size bs) (drop at w) ≡ flatten (wholes bs)
unfolding Laid flatten
laid_whole w at [] l full = refl
laid_whole w at (b ∷ bs) l full =
    let same : b.part ≡ b.whole = heads_same full in
    let long : at + length b.part - at ≡ length b.whole = omega (arith, ap length same) in
    let first : take (length b.whole) (drop at w) ≡ b.whole =
    ap (λ (k : ℕ). take k (drop at w)) (sym long) ∙ sym (slice_from at (at + length b.part) w) ∙ l.0.here ∙ same in
    ap (λ (k : ℕ). take k (drop at w)) (size_cons b bs) ∙ take-add (length b.whole) (size bs) (drop at w)
    ∙ ap₂ (λ (x y : List ℕ). x ++ y) first
    (ap (λ (l : List ℕ). take (size bs) l) (drop-drop (length b.whole) at w)
    ∙ laid_whole w (at + length b.whole) bs l.1 (tails_same full))
