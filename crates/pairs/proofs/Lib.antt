mod StepLaws
mod RunLaws
mod AnswerLaws
