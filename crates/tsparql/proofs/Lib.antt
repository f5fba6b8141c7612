-- The laws about the definitions, each file above the ones that it uses.
-- Lists, sums, trust and rows
pub mod ListLaws
pub mod SumLaws
pub mod TrustLaws
pub mod RowLaws
pub mod NodeSets
-- What push does to rows, space and pairs
pub mod PushRows
-- Query bytes: sizes, readers, reading what was written, writing what was read; what push does to them
pub mod QuerySize
pub mod ReaderSteps
pub mod ReadWritten
pub mod WrittenRead
pub mod PushQuery
-- What the checks give
pub mod RefusalLaws
pub mod ChoiceLaws
pub mod TupleLaws
pub mod TableLaws
pub mod MeanLaws
pub mod QueryLaws
-- The calls
pub mod CeilingLaws
pub mod SpaceLaws
pub mod EvaluateLaws
pub mod RewriteLaws
pub mod CallLaws
pub mod TallyLaws
pub mod Demand3
-- The published algebra
pub mod Cardinalities
pub mod GraphLaws
pub mod Solutions
pub mod Published
pub mod FreeVariables
-- Totals
pub mod TotalsLaws
-- Text, and the table of cases
pub mod TextLaws
pub mod Cases
