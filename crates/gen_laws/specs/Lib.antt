pub mod GeneratedJob
pub mod Results
