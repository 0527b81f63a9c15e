-- What is asked of a callee for some query and path, from what is known of them.
use Prim.Native.Nat.{ℕ}
use mathlib.Core.List.{List}
use Rattle.join_spec.specs.Query.{Query}
use Rattle.join_index.specs.Asking.{SomeQuery}
use Rattle.join_nodes.specs.Narrowing.{SomePath}

pub some_path : {P Q : Query → List ℕ → Type 0} → SomePath P → ((q : Query) (path : List ℕ) → P q path → Q q path) → SomePath Q
some_path some show =
    record { query = some.query; path = some.path; holds = show some.query some.path some.holds }

pub some-query : {P : Query → List ℕ → Type 0} {Q : Query → Type 0} → SomePath P
    → ((q : Query) (path : List ℕ) → P q path → Q q) → SomeQuery Q
some-query some show = record { query = some.query; holds = show some.query some.path some.holds }
