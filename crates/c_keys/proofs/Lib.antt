pub mod KeysAnswered
