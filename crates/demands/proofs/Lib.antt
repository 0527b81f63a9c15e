-- The demands, in the file to read first. Then what they are shown from beside the operations' own laws.
pub mod Demands
-- the numbers of a join's answers, and of the refusals
pub mod Words
pub mod Numbers
-- joins whose rule is a number, and two joins of equal sets
pub mod ByNumber
pub mod Alike
-- lists that were loaded: the tests that they pass, and the round trip in calls
pub mod Good
pub mod LoadedTests
pub mod RoundTrip
