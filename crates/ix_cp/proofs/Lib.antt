pub mod ElsewhereLaws
pub mod EvenLaws
pub mod PlanLaws
