-- Two ways to split one list around an element: they are the same, or the element of one is before that of the other.
use Rattle.std.proofs.Common.{◌≡◌, List, [], ◌∷◌, ◌++◌, sym, refl, ap, ap₂}

module _ {A : Type 0} where
  heads_same : {x y : A} {xs ys : List A} → ◌≡◌ {A = List A} (x ∷ xs) (y ∷ ys) → x ≡ y
  heads_same e = cc

  tails_same : {x y : A} {xs ys : List A} → ◌≡◌ {A = List A} (x ∷ xs) (y ∷ ys) → xs ≡ ys
  tails_same e = cc

  pub two_splits : {P : Type 0} (before : List A) (r : A) (after b : List A) (s : A) (a : List A)
      → before ++ (r ∷ after) ≡ b ++ (s ∷ a)
      → (before ≡ b → r ≡ s → after ≡ a → P)
      → ((mid : List A) → before ≡ b ++ (s ∷ mid) → P)
      → ((mid : List A) → b ≡ before ++ (r ∷ mid) → P)
      → P
  two_splits [] r after [] s a e same later earlier = same refl (heads_same e) (tails_same e)
  two_splits [] r after (y ∷ b) s a e same later earlier =
      earlier b (ap (λ (x : A). x ∷ b) (sym (heads_same e)))
  two_splits (x ∷ before) r after [] s a e same later earlier = later before (ap (λ (z : A). z ∷ before) (heads_same e))
  two_splits (x ∷ before) r after (y ∷ b) s a e same later earlier =
      two_splits before r after b s a (tails_same e)
      (λ p q t. same (ap₂ (λ (z : A) (l : List A). z ∷ l) (heads_same e) p) q t)
      (λ mid p. later mid (ap₂ (λ (z : A) (l : List A). z ∷ l) (heads_same e) p))
      (λ mid p. earlier mid (ap₂ (λ (z : A) (l : List A). z ∷ l) (sym (heads_same e)) p))
