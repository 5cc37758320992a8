-- A key or a switch of the code as one of the words.
use Rattle.bfm_cli.specs.Words.{Key, Switch}
use Rattle.bfm_cli.specs.declared.words.Key.{Key as KeyInCode}
use Rattle.bfm_cli.specs.declared.words.Switch.{Switch as SwitchInCode}

abbrev pub key_of : KeyInCode → Key
key_of key = record { name = key.name.now; least = key.least; greatest = key.greatest; usual = key.usual }

abbrev pub switch_of : SwitchInCode → Switch
switch_of switch = record { name = switch.name.now; on = switch.on.now; off = switch.off.now }
