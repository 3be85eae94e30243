pub mod SomeOutOfOrder
