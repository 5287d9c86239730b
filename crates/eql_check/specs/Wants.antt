-- Want of memory, as each kind of refusal says it.
use Rattle.eql_check.specs.declared.mapping.MapRefused.{MapRefused}
use Rattle.eql_check.specs.declared.mapping.MapRefused.TheVariants as map
use Rattle.eql_check.specs.declared.refused.CheckRefused.{CheckRefused}
use Rattle.eql_check.specs.declared.refused.CheckRefused.TheVariants as check

abbrev pub map_memory : MapRefused
map_memory = map.Memory

abbrev pub check_memory : CheckRefused
check_memory = check.Memory
