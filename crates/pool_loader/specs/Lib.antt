-- Contents: the answer of a pooled load by the lists' lengths, and what follows the first file. The load itself is defined in
-- `pool_loader_spec`.
pub mod answer
pub mod second_file
