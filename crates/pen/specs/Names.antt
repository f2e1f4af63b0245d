-- The names that the pen writes are packed (crates/names).
unfoldable pub use Rattle.names.specs.Names.{packed_by, packed, unpacked, earlier}
pub use Rattle.names.specs.Names.{behind, name_of}
