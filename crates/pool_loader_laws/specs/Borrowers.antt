-- The borrowers of two files: their numbers by place, and the tags of each by number. Document 02, C-11: "Stacks with the same
-- number in both belong to one borrower and are pooled: the set is the union. Places follow the first file, then the second's
-- stacks not yet met". A stack is a right set.
use Rattle.std.specs.Prelude.{ℕ, List, ◌++◌, eqb}
use Rattle.lists.specs.Lists.{keep}
use Rattle.sets.specs.declared.Side.TheVariants.{Right}
use Rattle.tag_file.specs.Records.{TagRecord, of_side, all_tags}
use Rattle.tag_file.specs.Loading.{numbers_of}
use Rattle.pool_loader_spec.specs.Pooling.{unmet}

-- the tags of the right set with a number; none where there is no such set
abbrev pub tags_of_number : List TagRecord → ℕ → List ℕ
tags_of_number rs n = all_tags (keep (λ r. eqb n r.number) (of_side Right rs))

-- the tags of a borrower in either of two files
abbrev pub borrower_tags : List TagRecord → List TagRecord → ℕ → List ℕ
borrower_tags first second n = tags_of_number first n ++ tags_of_number second n

-- the numbers of the borrowers by place: those of the first file, then those of the second that the first has not
abbrev pub borrowers : List TagRecord → List TagRecord → List ℕ
borrowers first second = numbers_of Right first ++ numbers_of Right (unmet first second)
