-- The words of a refusal: three equal parts, then zeros.
use Prim.Native.Nat.{ℕ}
use mathlib.Core.Path.{◌≡◌, ap, ◌∙◌}
use mathlib.Core.List.{List, ◌∷◌}
use lib.ListN.{replicate}
use Rattle.sets.specs.Refusals.{row_of, refused_words}
use Rattle.sets.specs.declared.Refusal.{Refusal}

pub refused_words_lem : (why : Refusal) (values : ℕ) {n a b : ℕ} → n ≡ (row_of why).number → a ≡ (row_of why).first
    → b ≡ (row_of why).second
    → n ∷ a ∷ b ∷ replicate values 0 ≡ refused_words why values
refused_words_lem why values {n} {a} {b} en ea eb =
    ap (λ (x : ℕ). x ∷ a ∷ b ∷ replicate values 0) en
    ∙ (ap (λ (x : ℕ). (row_of why).number ∷ x ∷ b ∷ replicate values 0) ea
    ∙ ap (λ (x : ℕ). (row_of why).number ∷ (row_of why).first ∷ x ∷ replicate values 0) eb)

-- the side of a record among its words
pub side_words : {a b : ℕ} {rest : List ℕ} → a ≡ b → 0 ∷ 0 ∷ 0 ∷ 0 ∷ a ∷ rest ≡ 0 ∷ 0 ∷ 0 ∷ 0 ∷ b ∷ rest
side_words {a} {b} {rest} e = ap (λ (x : ℕ). 0 ∷ 0 ∷ 0 ∷ 0 ∷ x ∷ rest) e
