-- The words of a part that pass a test, written behind it: the invariant of `keep_flagged`, with its start, step and end.
use Prim.Native.Nat.{ℕ, ◌+◌, ◌-◌, ◌≤◌, ◌<◌}
use mathlib.Core.Path.{◌≡◌, sym, ap, subst, ◌∙◌}
use mathlib.Core.List.{List, [], ◌++◌, append-nil}
use mathlib.Core.Bool.{Bool}
use native.Mathlib.Omega.{arith}
use native.Mathlib.Numerals.{add-one}
use lib.ListN.{length, get_or, set}
use lib.Seq.{append_snoc}
use Rattle.lists.specs.Lists.{one, onto, keep, slice}
use Rattle.lists.specs.Parts.{Changed}
use Rattle.lists.proofs.Bools.{by_test}
use Rattle.lists.proofs.Slices.{slice_past, slice_none, slice_next, slice-set_above, slice-set_end}
use Rattle.lists.proofs.Slices.{changed_none, changed_store, changed_at_low}
use Rattle.words.specs.flags.Flags.{Below, Behind, Kept}
use Rattle.words.proofs.flags.Flagging.{word_below}

-- what was written, with what is to be kept of the rest, is what is to be kept
pub record Keeping (test : ℕ → Bool) (w₀ : List ℕ) (c e out : ℕ) (w : List ℕ) (j n : ℕ) : Type 0 where
  pub changed : Changed out (out + (e - c)) w₀ w
  pub from : c ≤ j
  pub low : out ≤ n
  pub high : n ≤ out + (e - c)
  pub behind : n ≤ out + (j - c)
  pub is : slice out n w ++ keep test (slice j e w₀) ≡ keep test (slice c e w₀)

module _ {test : ℕ → Bool} {w₀ : List ℕ} {c e out : ℕ} where
  pub keeping_start : Keeping test w₀ c e out w₀ c out
  keeping_start =
      record {
        changed = changed_none out (out + (e - c)) w₀;
        from = omega arith;
        low = omega arith;
        high = omega arith;
        behind = omega arith;
        is = ap (λ (l : List ℕ). l ++ keep test (slice c e w₀)) (slice_none out w₀);
      }

  module _ {w : List ℕ} {j n : ℕ} (s : Keeping test w₀ c e out w j n) where
    pub keeping_end : e ≤ j → Kept test c e out w₀ w n
    unfolding keep
    keeping_end past =
        let none : keep test (slice j e w₀) ≡ [] = ap (keep test) (slice_past j e w₀ past) in
        record {
          changed = s.changed;
          low = s.low;
          high = s.high;
          is = sym (append-nil (slice out n w)) ∙ ap (λ (l : List ℕ). slice out n w ++ l) (sym none) ∙ s.is;
        }

    module _ (behind : Behind c e out w₀) (more : j < e) where
      same_word : get_or w j 0 ≡ get_or w₀ j 0
      same_word = changed_at_low j (omega (arith, behind.low)) s.changed

      pub keeping_small : {bound : ℕ} → Below bound c e w₀ → get_or w j 0 < bound
      keeping_small {bound} places = subst (λ (x : ℕ). x < bound) (sym same_word) (word_below places j s.from more)

      -- one word more, kept or not
      pub keeping_step : {p : ℕ} → p ≡ one (test (get_or w j 0)) → Keeping test w₀ c e out (set w n (get_or w j 0)) (j + 1) (n + p)
      unfolding keep
      keeping_step {p} flag =
          let x = get_or w j 0 in
          let rest = keep test (slice (j + 1) e w₀) in
          let next : keep test (slice j e w₀) ≡ onto (test x) x rest =
          ap (keep test) (slice_next j e w₀ more (omega (arith, behind.low, behind.room)))
          ∙ ap (λ (y : ℕ). onto (test y) y rest) (sym same_word)
          in
          let stored = changed_store n x s.low (omega (arith, s.behind, s.from)) s.changed in
          let room : n < length w = omega (arith, s.behind, s.from, behind.room, s.changed.size) in
          by_test (test x)
          (λ t.
          let p1 : p ≡ 1 = rw t at flag in
          record {
            changed = stored;
            from = omega (arith, s.from);
            low = omega (arith, s.low);
            high = omega (arith, s.behind, s.from);
            behind = omega (arith, s.behind, s.from);
            is =
                ap (λ (k : ℕ). slice out (n + k) (set w n x) ++ rest) p1
                ∙ ap (λ (k : ℕ). slice out k (set w n x) ++ rest) (add-one n)
                ∙ ap (λ (l : List ℕ). l ++ rest) (slice-set_end out n w x s.low room)
                ∙ append_snoc (slice out n w) x rest
                ∙ ap (λ (l : List ℕ). slice out n w ++ l) (sym (next ∙ ap (λ (b : Bool). onto b x rest) t))
                ∙ s.is;
          })
          (λ t.
          let p0 : n + p ≡ n = omega (arith, rw t at flag) in
          record {
            changed = stored;
            from = omega (arith, s.from);
            low = omega (arith, s.low);
            high = omega (arith, s.high);
            behind = omega (arith, s.behind, s.from);
            is =
                ap (λ (k : ℕ). slice out k (set w n x) ++ rest) p0
                ∙ ap (λ (l : List ℕ). l ++ rest) (slice-set_above out n w n x (omega arith))
                ∙ ap (λ (l : List ℕ). slice out n w ++ l) (sym (next ∙ ap (λ (b : Bool). onto b x rest) t))
                ∙ s.is;
          })
