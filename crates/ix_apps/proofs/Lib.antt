pub mod SessionLaws
pub mod PushLaws
