-- The bit of an item: one of 64, and the same for items that leave the same remainder modulo 256, since powers of 3 modulo 257
-- repeat after 256.
use Prim.Native.Nat.{ℕ, zero, suc, ◌+◌, ◌*◌, ◌/◌, ◌%◌, ◌^◌, ◌<◌}
use mathlib.Core.Path.{◌≡◌, refl, sym, ap, ◌∙◌}
use mathlib.Core.List.{[], ◌∷◌, map}
use native.Mathlib.Nat.{pow-suc, add-mul-mod_self_left}
use native.Mathlib.Omega.{arith}
use Rattle.sets.specs.Signatures.{position}

-- the position is a place in a 64-bit word
pub position_bound : (k : ℕ) → position k < 64
unfolding position
position_bound k = omega arith

-- each power mod 257 gives the next
three_mod : (x : ℕ) → x * 3 % 257 ≡ x % 257 * 3 % 257
three_mod x =
    let parts : x * 3 ≡ x % 257 * 3 + 257 * (x / 257 * 3) = omega arith in
    ap (λ (y : ℕ). y % 257) parts ∙ add-mul-mod_self_left (x % 257 * 3) 257 (x / 257 * 3)

power_next : (k : ℕ) → 3 ^ suc k % 257 ≡ 3 ^ k % 257 * 3 % 257
power_next k = ap (λ (x : ℕ). x % 257) (pow-suc 3 k) ∙ three_mod (3 ^ k)

-- so that they repeat after 256, since the power 256 leaves 1, as the power 0 does
powers_repeat : (k : ℕ) → 3 ^ (k + 256) % 257 ≡ 3 ^ k % 257
powers_repeat zero = refl
powers_repeat (suc k) =
    let later : suc k + 256 ≡ suc (k + 256) = omega arith in
    ap (λ (n : ℕ). 3 ^ n % 257) later
    ∙ power_next (k + 256)
    ∙ ap (λ (x : ℕ). x * 3 % 257) (powers_repeat k)
    ∙ sym (power_next k)

rounds_repeat : (k rounds : ℕ) → position (k + 256 * rounds) ≡ position k
unfolding position
rounds_repeat k zero = let none : k + 256 * 0 ≡ k = omega arith in ap position none
rounds_repeat k (suc rounds) =
    let last : k + 256 * suc rounds ≡ k + 256 * rounds + 256 = omega arith in
    ap position last ∙ rw (powers_repeat (k + 256 * rounds)) (rounds_repeat k rounds)

pub position_repeats : (k : ℕ) → position (k % 256) ≡ position k
position_repeats k =
    let parts : k % 256 + 256 * (k / 256) ≡ k = omega arith in
    sym (rounds_repeat (k % 256) (k / 256)) ∙ ap position parts

-- the positions of the first eight items and of three later ones, computed
pub some_positions : map position (0 ∷ 1 ∷ 2 ∷ 3 ∷ 4 ∷ 5 ∷ 6 ∷ 7 ∷ 161 ∷ 256 ∷ 4095 ∷ [])
    ≡ 1 ∷ 3 ∷ 9 ∷ 27 ∷ 17 ∷ 51 ∷ 23 ∷ 3 ∷ 1 ∷ 1 ∷ 22 ∷ []
unfolding position
some_positions = refl
