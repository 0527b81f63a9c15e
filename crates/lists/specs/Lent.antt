-- A list that is lent to a function: what it holds when the function is called and when it returns, as a contract names a parameter:
-- `Lent` where the function reads it, `LentMut` where it writes it.
use Rattle.std.specs.Prelude.{List, ℕ}
use Rattle.std.specs.Borrow.{Bor, MutBor}
use denote.Triple.Both.{Both}

abbrev pub Lent : Type 0
Lent = Both (Bor (List ℕ)) (Bor (List ℕ))

abbrev pub LentMut : Type 0
LentMut = Both (MutBor (List ℕ)) (MutBor (List ℕ))

-- what it holds at the call
abbrev pub at_call : Lent → List ℕ
at_call list = list.entry.now
