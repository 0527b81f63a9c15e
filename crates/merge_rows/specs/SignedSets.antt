-- Inner: signatures of right sets on demand: two words each, low then high, which are 0 until the signature is asked for.
use Rattle.std.specs.Prelude.{ℕ, ◌+◌, ◌*◌, ◌<◌, ◌≤◌, ◌≡◌, List, [], Bool, true, ltb, length, take, get_or, None}
use Rattle.lists.specs.Lists.{all}
use Rattle.sets.specs.Collections.{Collection, sets_in, first_bad_in}
use Rattle.sets.specs.Signatures.{signature, drops}
use Rattle.signatures.specs.Signing.{double}

-- from at on stand the signatures of right sets, or zeros
pub record SignedSome (at : ℕ) (rights : List (List ℕ)) (w : List ℕ) : Type 0 where
  pub room : at + 2 * length rights ≤ length w
  pub each : (s : ℕ) → s < length rights → (double w (at + 2 * s) ≡ 0 → ⊥) → double w (at + 2 * s) ≡ signature (get_or rights s [])

-- right sets without a bad one, and the signatures of some
pub record SignRoom (at : ℕ) (sets : Collection) (w : List ℕ) : Type 0 where
  pub T : ℕ
  pub good : first_bad_in T sets ≡ None
  pub signed : SignedSome at (sets_in sets) w

-- w became w': more right sets may have their signatures; nothing below changed
pub record Signs (at : ℕ) (rights : List (List ℕ)) (w w' : List ℕ) : Type 0 where
  pub low : take at w' ≡ take at w
  pub size : length w' ≡ length w
  pub signed : SignedSome at rights w'

-- whether a check of a left set with this signature drops right set s
abbrev pub drops_at : ℕ → List (List ℕ) → ℕ → Bool
drops_at mark rights s = drops mark (signature (get_or rights s []))

-- places of right sets
abbrev pub PlacesIn : ℕ → List ℕ → Type 0
PlacesIn n places = all (λ s. ltb s n) places ≡ true
