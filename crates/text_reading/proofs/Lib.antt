pub mod LineScan
pub mod ScanSteps
pub mod ScanLaws
