pub mod Files
pub mod CallPlan
pub mod MemoryForms
