-- Contents: what the functions of the record reader promise each other. What is read is defined in tag_file.
pub mod Chains
