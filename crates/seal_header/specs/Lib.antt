pub mod HeaderWritten
