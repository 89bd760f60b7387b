-- What the headline says of energies: components, parameters, phases and divisions.
pub mod Components
pub mod Instances
pub mod Printed
pub mod Parameters
pub mod Divisions
pub mod Weighing
