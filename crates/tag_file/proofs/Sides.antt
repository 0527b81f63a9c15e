-- Two sides compared by `==` and `!=`: what was told of them says whether they are the same.
use mathlib.Core.Path.{◌≡◌, refl, sym, ◌∙◌}
use mathlib.Core.Bool.{Bool, true, false, not}
use denote.Enum.Bare.{sameb}
use Rattle.sets.specs.declared.Side.{Side}
use Rattle.sets.specs.declared.Side.TheVariants.{Left, Right}
use Rattle.sets.specs.contracts.Side as side
use Rattle.tag_file.specs.Records.{same_side}

same_told : (a b : Side) → sameb side.the_type a b ≡ same_side b a
same_told Left Left = refl
same_told Left Right = refl
same_told Right Left = refl
same_told Right Right = refl

not_told : (a b : Side) {told : Bool} → told ≡ not (sameb side.the_type a b) → same_side b a ≡ not told
not_told Left Left e = rw e
not_told Left Right e = rw e
not_told Right Left e = rw e
not_told Right Right e = rw e

pub told_equal : (a b : Side) {told : Bool} → told ≡ sameb side.the_type a b → told ≡ true → same_side b a ≡ true
told_equal a b e is = sym (same_told a b) ∙ sym e ∙ is

pub told_unequal : (a b : Side) {told : Bool} → told ≡ sameb side.the_type a b → told ≡ false → same_side b a ≡ false
told_unequal a b e is = sym (same_told a b) ∙ sym e ∙ is

pub told_not_same : (a b : Side) {told : Bool} → told ≡ not (sameb side.the_type a b) → told ≡ true → same_side b a ≡ false
told_not_same a b e is = not_told a b e ∙ rw is

pub told_same : (a b : Side) {told : Bool} → told ≡ not (sameb side.the_type a b) → told ≡ false → same_side b a ≡ true
told_same a b e is = not_told a b e ∙ rw is
