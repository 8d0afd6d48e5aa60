pub mod Pairs
pub mod PairLaws
pub mod Rows
pub mod Votes
pub mod VoteLaws
