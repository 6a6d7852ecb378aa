pub mod NumberScanning
