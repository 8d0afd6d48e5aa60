pub mod Topologies
pub mod TopologyLaws
pub mod Rows
