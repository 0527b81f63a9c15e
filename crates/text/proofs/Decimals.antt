-- Decimal numbers: the definition without its fuel, a digit or one digit more; the digits that the library writes are the
-- definition's; and how many there are at most.
use Prim.Native.Nat.{ℕ, zero, suc, ◌-◌, ◌/◌, ◌%◌, ◌^◌, ◌<◌, ◌≤◌}
use mathlib.Core.Path.{◌≡◌, refl, sym, ap, subst, ◌∙◌}
use mathlib.Core.List.{List, [], ◌∷◌, ◌++◌}
use mathlib.Core.Bool.{Bool, true, false, cond}
use native.Mathlib.Nat.{pow-zero, pow-suc}
use native.Mathlib.Omega.{arith}
use borrow.Author.Tests.{ltb-true, ltb-false, lt-ltb, le-ltb}
use lib.Dec.{ltb}
use lib.ListN.{length, length-append}
use Rattle.lists.proofs.Bools.{by_test}
use Rattle.io.specs.Digits.{hex_digit_ascii, last_digits, IsDigitCount}
use Rattle.text.specs.Lines.{digit, decimal_from, decimal}

-- any fuel above the number gives the same
fuel_same : (f g n : ℕ) → n < f → n < g → decimal_from f n ≡ decimal_from g n
unfolding decimal_from
fuel_same zero g n a b = absurd (omega arith)
fuel_same (suc f) zero n a b = absurd (omega arith)
fuel_same (suc f) (suc g) n a b = here (λ large. fuel_same f g (n / 10) (omega arith) (omega arith)) (ltb n 10) refl
  where
    here : (10 ≤ n → decimal_from f (n / 10) ≡ decimal_from g (n / 10)) → (b : Bool) → ltb n 10 ≡ b
        → cond b (digit n ∷ []) (decimal_from f (n / 10) ++ (digit (n % 10) ∷ []))
        ≡ cond b (digit n ∷ []) (decimal_from g (n / 10) ++ (digit (n % 10) ∷ []))
    here again true e = refl
    here again false e = ap (λ (l : List ℕ). l ++ (digit (n % 10) ∷ [])) (again (ltb-false n 10 e))

module _ (n : ℕ) where
  -- a number below ten is its digit
  pub decimal_digit : n < 10 → decimal n ≡ digit n ∷ []
  unfolding decimal decimal_from
  decimal_digit small = rw (lt-ltb n 10 small)

  -- any other is the tenth of it, and its last digit
  pub decimal_more : 10 ≤ n → decimal n ≡ decimal (n / 10) ++ (digit (n % 10) ∷ [])
  unfolding decimal decimal_from
  decimal_more large =
      rw (le-ltb n 10 large)
      (ap (λ (l : List ℕ). l ++ (digit (n % 10) ∷ [])) (fuel_same n (suc (n / 10)) (n / 10) (omega arith) (omega arith)))

glyph_digit : (d : ℕ) → d < 10 → hex_digit_ascii d ≡ digit d
glyph_digit d small = rw (lt-ltb d 10 small)

pow_positive : (k : ℕ) → 1 ≤ 10 ^ k
pow_positive zero = omega (arith, pow-zero 10)
pow_positive (suc k) = omega (arith, pow-suc 10 k, pow_positive k)

-- the fewest digits of a number are those of the definition
pub digits_decimal : (k n : ℕ) → IsDigitCount 10 1 n k → last_digits 10 k n ≡ decimal n
digits_decimal zero n few = absurd (omega (arith, few.0))
digits_decimal (suc zero) n few =
    let small : n < 10 = omega (arith, few.1) in
    let whole : n % 10 ≡ n = omega arith in
    ap (λ (d : ℕ). hex_digit_ascii d ∷ []) whole ∙ ap (λ (d : ℕ). d ∷ []) (glyph_digit n small) ∙ sym (decimal_digit n small)
digits_decimal (suc (suc k)) n few =
    let whole : suc (suc k) - 1 ≡ suc k = omega arith in
    let front : k ≡ suc k - 1 = omega arith in
    let least : 10 ^ suc k ≤ n = subst (λ (j : ℕ). 10 ^ j ≤ n) whole (few.2 (omega arith)) in
    let large : 10 ≤ n = omega (arith, pow-suc 10 k, pow_positive k) in
    let shorter : IsDigitCount 10 1 (n / 10) (suc k) = (
      omega arith,
      omega (arith, few.1, pow-suc 10 (suc k)),
      λ more. subst (λ (j : ℕ). 10 ^ j ≤ n / 10) front (omega (arith, pow-suc 10 k)),
    ) in
    ap (λ (l : List ℕ). l ++ (hex_digit_ascii (n % 10) ∷ [])) (digits_decimal (suc k) (n / 10) shorter)
    ∙ ap (λ (d : ℕ). decimal (n / 10) ++ (d ∷ [])) (glyph_digit (n % 10) (omega arith))
    ∙ sym (decimal_more n large)

-- a number below a power of ten has no more digits than its exponent
pub length-decimal : (k n : ℕ) → n < 10 ^ suc k → length (decimal n) ≤ suc k
length-decimal zero n low = omega (arith, ap length (decimal_digit n (omega arith)))
length-decimal (suc k) n low =
    by_test (ltb n 10) (λ e. omega (arith, ap length (decimal_digit n (ltb-true n 10 e))))
    (λ e.
    omega (
      arith,
      ap length (decimal_more n (ltb-false n 10 e)),
      length-append (decimal (n / 10)) (digit (n % 10) ∷ []),
      length-decimal k (n / 10) (omega (arith, pow-suc 10 (suc k))),
    ))
