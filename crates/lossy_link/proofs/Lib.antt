pub mod MemberLists
pub mod EntryLists
pub mod Outcomes
