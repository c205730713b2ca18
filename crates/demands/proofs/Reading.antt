-- Demand 1 of reading a record. The crate records states it and shows it (specs/Demand, proofs/Demand); here it stands beside the others.
-- Assumes nothing.
use Rattle.records.specs.Reading.{read_at}
use Rattle.records.specs.Demand.{Demand1}
use Rattle.records.proofs.Demand as reading

pub demand1-read : Demand1 read_at
demand1-read = reading.demand1-read
