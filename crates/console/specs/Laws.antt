pub mod AnswerLaws
pub mod LinesLaws
pub mod LinesPrinted
pub mod SessionLaws
pub mod StepLaws
