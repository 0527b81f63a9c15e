-- `tag_index::tag_adding::see` meets its contract.
use mathlib.Core.Path.{◌≡◌, refl, ap, ◌∙◌}
use mathlib.Core.Bool.{Bool, true, false, not}
use native.Mathlib.Omega.{arith}
use mir.Val.{bool_byte as from_bool}
use Rattle.lists.specs.Lists.{one}
use Rattle.lists.proofs.Counting.{one_bound}
use Rattle.tag_index.proofs.tag_adding.see.Goals as goal

from_bool_one : (b : Bool) → from_bool b ≡ one b
from_bool_one true = refl
from_bool_one false = refl

pub returns : goal.returns
returns c =
    let told = c.claim-before in
    let new : c.from.result ≡ one (not told.result) = c.from.ensures ∙ from_bool_one (not told.result) in
    record {
      counted = new ∙ ap (λ (b : Bool). one (not b)) told.ensures.before;
      small = omega (arith, new, one_bound (not told.result));
      marked = told.ensures.noted;
    }
