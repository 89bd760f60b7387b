pub mod Digits
pub mod DecimalForm
pub mod FirstFault
pub mod Signs
pub mod Zeros
pub mod WholeText
pub mod Regroup
pub mod Exports
