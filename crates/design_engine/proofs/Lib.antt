-- The lemmas by topic.

-- ---- which class a design's corners and its form are of, and what they are in each
pub mod CornerFacts
pub mod CornerLaws
pub mod ClassFacts
pub mod FormLaws
-- ---- the promise, and the targets
pub mod TargetLaws
pub mod PromiseFacts
pub mod RowChoice
pub mod RunPromise
pub mod PromiseLaws
-- ---- one refusal, one controller but for its gains
pub mod TestLaws
pub mod OneOfEach
pub mod StageLaws
pub mod CauseLaws
pub mod AgreementLaws
-- ---- what `generate` answers
pub mod GenerationFacts
pub mod CauseCases
pub mod RefusalFacts
pub mod PrintedFacts
pub mod BuiltFacts
pub mod ResidualFacts
pub mod AnswerLaws
