pub mod Lessons
pub mod LessonLaws
