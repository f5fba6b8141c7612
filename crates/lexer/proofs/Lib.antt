-- Laws about symbols, rules, stacks, tokens and scans, each file above the ones that use it.
pub mod SymbolLaws
pub mod RuleLaws
pub mod StackLaws
pub mod Advances
pub mod FirstByte
pub mod NumberLaws
pub mod FixedLaws
pub mod NextLaws
pub mod ScanLaws
