pub mod RecordTexts
pub mod OperationTexts
pub mod RefusalTexts
pub mod RowLines
pub mod AuditLines
