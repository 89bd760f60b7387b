pub mod SurfaceBound
pub mod Certificates
pub mod Exports
