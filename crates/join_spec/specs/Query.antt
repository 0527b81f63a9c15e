-- The settings of a join; and what the walk sees of an accepted input: the count of items, their ranks, the settings that bear on the
-- walk, and both collections as sets.
use Rattle.std.specs.Prelude.{ℕ, List}
use Rattle.sets.specs.Collections.{sets_of}
use Rattle.inputs.specs.Input.{Input}
use Rattle.sets.specs.Ordered.{ordered}
use Rattle.join_spec.specs.declared.Rule.{Rule}
use Rattle.join_spec.specs.declared.Settings as declared

pub record Settings : Type 0 where
  pub limit : ℕ
  pub ranks : List ℕ
  pub budget : ℕ
  pub rule : Rule

-- the settings as they are lent, by their names
abbrev pub settings_of : ℕ → List ℕ → ℕ → Rule → Settings
settings_of limit ranks budget rule = record { limit = limit; ranks = ranks; budget = budget; rule = rule }

-- the settings that are lent
abbrev pub lent_settings : declared.Settings → Settings
lent_settings s = settings_of s.limit s.ranks.now s.budget s.rule

pub record Query : Type 0 where
  pub T : ℕ
  pub ranks : List ℕ
  pub limit : ℕ
  pub rule : Rule
  pub lefts : List (List ℕ)
  pub rights : List (List ℕ)

-- the query of two collections and settings as they are lent
abbrev pub query : ℕ → List ℕ → List ℕ → List ℕ → List ℕ → ℕ → List ℕ → Rule → Query
query T left_ends left_items right_ends right_items limit ranks rule =
    record {
      T = T;
      ranks = ranks;
      limit = limit;
      rule = rule;
      lefts = sets_of left_ends left_items;
      rights = sets_of right_ends right_items;
    }

-- the query of an input and settings
abbrev pub query_of : Input → Settings → Query
query_of i s =
    query i.T i.left.ends i.left.items i.right.ends i.right.items s.limit s.ranks s.rule

-- a set in order of rising rank
abbrev pub in_order : Query → List ℕ → List ℕ
in_order q set = ordered q.T q.ranks set
