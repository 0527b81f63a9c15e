-- Contents: what the modules that count and rank promise each other. The order itself is defined in `item_order_spec`.
pub mod frequencies
pub mod ranks
