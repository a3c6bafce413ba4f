-- Want of memory has one value.
use Rattle.stx_scenario.specs.declared.memory.NoMemory.{NoMemory}

abbrev pub no_memory : NoMemory
no_memory = record { refused = tt }
