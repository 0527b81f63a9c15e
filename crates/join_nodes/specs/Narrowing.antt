-- Inner: the candidates of a node: the right sets that are seen and hold all ranks of its path but the last, listed in a part of the
-- work list.
use Rattle.std.specs.Prelude.{ℕ, suc, ◌+◌, ◌-◌, ◌≤◌, ◌<◌, ◌≡◌, List, true, length, take, drop}
use Rattle.lists.specs.Lists.{keep, upto, slice}
use Rattle.join_spec.specs.Query.{Query}
use Rattle.join_spec.specs.Node.{last_of}
use Rattle.join_spec.specs.Walk.{is_candidate}
use Rattle.join_index.specs.Grouping.{right_at}
use Rattle.join_index.specs.Ground.{Listing, offset_of, asks_seen}
use Rattle.join_index.specs.declared.Layout.{Layout}
use Rattle.join_index.specs.Asking.{Index}
use Rattle.words.specs.declared.Part.{Part}

-- there are a query and a path of which it holds
pub record SomePath (P : Query → List ℕ → Type 0) : Type 0 where
  pub query : Query
  pub path : List ℕ
  pub holds : P query path

-- the right places that are candidates after the first e ranks of a path, rising
abbrev pub candidate_list : Query → List ℕ → ℕ → List ℕ
candidate_list q path e = keep (λ s. is_candidate e path (right_at q s)) (upto (length q.rights))

-- where the slot of a rank begins
abbrev pub slot_of : Layout → List ℕ → ℕ → ℕ
slot_of lay w r = lay.slots + offset_of lay w r

-- work[lo..hi] lists the candidates of a node at depth d, below the slot of its last rank. They rise, except at depth 1: there they
-- are the right sets seen, if the rule asks for these
pub record Candidates (lay : Layout) (q : Query) (path w : List ℕ) (d lo hi : ℕ) : Type 0 where
  pub index : Index lay q w
  pub depth : length path ≡ d
  pub deep : 0 < d
  pub last : last_of path < q.T
  pub rise : lo ≤ hi
  pub below : hi ≤ slot_of lay w (last_of path)
  pub few : hi - lo ≤ length q.rights
  pub listing :
      asks_seen q.rule ≡ true → Listing (length q.rights) (λ s. is_candidate (d - 1) path (right_at q s)) (slice lo hi w)
  pub sorted : 1 < d → slice lo hi w ≡ candidate_list q path (d - 1)

-- the candidates after the node, and w became w': the kept rows are as they were
pub record Narrowed (lay : Layout) (q : Query) (path : List ℕ) (d : ℕ) (w w' : List ℕ) (part : Part) : Type 0 where
  pub size : length w' ≡ length w
  pub frame : take (slot_of lay w (last_of path)) w' ≡ take (slot_of lay w (last_of path)) w
  pub rise : part.«from» ≤ part.to
  pub below : part.to ≤ slot_of lay w (suc (last_of path))
  pub rest : drop lay.row_starts w' ≡ drop lay.row_starts w
  pub holds : slice part.«from» part.to w' ≡ candidate_list q path d
