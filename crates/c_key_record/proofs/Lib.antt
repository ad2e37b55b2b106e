pub mod KeyRecords
