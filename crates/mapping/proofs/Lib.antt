pub mod SpanLaws
pub mod NextSpan
pub mod Outcomes
pub mod RowByRow
