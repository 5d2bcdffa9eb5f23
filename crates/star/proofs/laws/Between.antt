-- What stands between a neighbour and the next one: nothing.
pub use Rattle.star.proofs.Cyclic.{IsAmid, next_or_amid, around_inside}
