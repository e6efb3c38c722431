use Rattle.usb_desc.proofs.Bytes.{alts_short}
use Rattle.usb_desc.proofs.write.write_config.Goals as goal

pub put_parts-requires : goal.put_parts-requires
put_parts-requires c = alts_short c.args.c.now c.requires
